-- As many rows are copied as were found, and they fit.
use Rattle.std.proofs.Common.{ap, ◌∙◌, arith, length}
use Rattle.board.specs.declared.Listed.{Listed}
use Rattle.board.specs.WorkingCalls.{list_of}
use Rattle.board.proofs.Answers.{list_counts, list-within}
use Rattle.board.proofs.Fills.{fill-fits, fill-long, filled}
use Rattle.board.proofs.list.Goals as goal

pub slice_bounds-copy_from_slice-end : goal.slice_bounds-copy_from_slice-end
slice_bounds-copy_from_slice-end c =
    let a = c.args in
    omega (arith, ap (λ (x : Listed). x.count) c.in-Ok.ensures.value.0, list_counts a.s.now (length a.rows.now), list-within a.s.now (length a.rows.now))

pub slice_bounds-copy_from_slice-end-in-Ok : goal.slice_bounds-copy_from_slice-end-in-Ok
slice_bounds-copy_from_slice-end-in-Ok c =
    let s = c.args.s.now in
    let m = length c.args.rows.now in
    fill-fits c.args.rows.now _ (list_of s m).rows _ c.in-Ok.ensures.value.1 (ap (λ (x : Listed). x.count) c.in-Ok.ensures.value.0 ∙ list_counts s m) (list-within s m)

pub copy_from_slice-requires : goal.copy_from_slice-requires
copy_from_slice-requires c =
    let s = c.args.s.now in
    let m = length c.args.rows.now in
    fill-long c.args.rows.now _ (list_of s m).rows _ c.in-Ok.ensures.value.1 (ap (λ (x : Listed). x.count) c.in-Ok.ensures.value.0 ∙ list_counts s m) (list-within s m)

pub returns-in-Ok-clause-rows_after : goal.returns-in-Ok-clause-rows_after
returns-in-Ok-clause-rows_after c =
    let s = c.args.s.now in
    let m = length c.args.rows.now in
    filled c.args.rows.now _ (list_of s m).rows _ c.in-Ok.ensures.value.1 (ap (λ (x : Listed). x.count) c.in-Ok.ensures.value.0 ∙ list_counts s m) (list-within s m) _ c.copy_from_slice.ensures.after
