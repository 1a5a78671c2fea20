-- Its parts stand between its commas.
use native.Mathlib.Omega.{arith}
use Rattle.fields.proofs.Groups.{first-in}
use Rattle.offers.proofs.Putting.{commas, sender-fits, names-short, group-laid}
use Rattle.offers.proofs.withdrawal_by.Goals as goal

pub overflow_add-a : goal.overflow_add-a
overflow_add-a c = omega (arith, first-in c.args.t.now _ c.comma-a.ensures)

pub overflow_add-b : goal.overflow_add-b
overflow_add-b c = let g = commas c.args.t.now c.comma-a.result c.comma-b.result c.requires c.comma-a.ensures c.comma-b.ensures in omega arith

pub slice_bounds-instant-count : goal.slice_bounds-instant-count
slice_bounds-instant-count c = let g = commas c.args.t.now c.comma-a.result c.comma-b.result c.requires c.comma-a.ensures c.comma-b.ensures in omega arith

pub slice_bounds-instant-start : goal.slice_bounds-instant-start
slice_bounds-instant-start c = let g = commas c.args.t.now c.comma-a.result c.comma-b.result c.requires c.comma-a.ensures c.comma-b.ensures in omega arith

pub slice_bounds-withdrawal-end : goal.slice_bounds-withdrawal-end
slice_bounds-withdrawal-end c = sender-fits _ _ _ c.requires (commas c.args.t.now c.comma-a.result c.comma-b.result c.requires c.comma-a.ensures c.comma-b.ensures)

pub slice_bounds-withdrawal-end-2 : goal.slice_bounds-withdrawal-end-2
slice_bounds-withdrawal-end-2 c = let g = commas c.args.t.now c.comma-a.result c.comma-b.result c.requires c.comma-a.ensures c.comma-b.ensures in omega arith

pub withdrawal-requires : goal.withdrawal-requires
withdrawal-requires c =
    names-short _ _ _ c.requires (commas c.args.t.now c.comma-a.result c.comma-b.result c.requires c.comma-a.ensures c.comma-b.ensures)

pub returns : goal.returns
returns c =
    group-laid _ _ _ c.requires (commas c.args.t.now c.comma-a.result c.comma-b.result c.requires c.comma-a.ensures c.comma-b.ensures) _ _ _ c.instant-sent.ensures c.unwrap_or.ensures c.withdrawal.ensures
