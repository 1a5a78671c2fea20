-- In each turn a header is left, and its row is written behind those of the headers before it.
use Rattle.std.proofs.Common.{refl}
use native.Mathlib.Omega.{arith}
use Rattle.board.proofs.Finds.{stands-at, stands-last, stand-start, row_within, stand-next, stand-end, due-most}
use Rattle.board.proofs.Marked.due_rows.Goals as goal

pub loop-next-init : goal.loop-next-init
loop-next-init c =
    let f = c.first_after-next.ensures in
    (refl, f.1, stand-start _ _ _ _ c.args.self.now.within f.0)

pub count_alike-requires : goal.count_alike-requires
count_alike-requires c =
    let v = c.loop-next.invariant in
    let t = stands-at _ _ _ _ _ _ v.1 v.2 c.in-Some.j c.in-Some.is in
    t.0

pub offset_bounds-rows-count : goal.offset_bounds-rows-count
offset_bounds-rows-count c =
    let v = c.loop-next.invariant in
    let t = stands-at _ _ _ _ _ _ v.1 v.2 c.in-Some.j c.in-Some.is in
    omega (arith, row_within _ _ _ _ _ _ t.1 t.0, due-most c.args.self.now.n c.args.self.now.s.now, c.args.self.now.few)

pub bounds-rows-count : goal.bounds-rows-count
bounds-rows-count c =
    let v = c.loop-next.invariant in
    let t = stands-at _ _ _ _ _ _ v.1 v.2 c.in-Some.j c.in-Some.is in
    omega (arith, row_within _ _ _ _ _ _ t.1 t.0, due-most c.args.self.now.n c.args.self.now.s.now, c.args.self.now.few, v.0, v.2.same-long)

pub overflow_add-count : goal.overflow_add-count
overflow_add-count c =
    let v = c.loop-next.invariant in
    let t = stands-at _ _ _ _ _ _ v.1 v.2 c.in-Some.j c.in-Some.is in
    omega (arith, row_within _ _ _ _ _ _ t.1 t.0, due-most c.args.self.now.n c.args.self.now.s.now, c.args.self.now.few)

pub next_after-next-requires : goal.next_after-next-requires
next_after-next-requires c =
    let v = c.loop-next.invariant in
    let t = stands-at _ _ _ _ _ _ v.1 v.2 c.in-Some.j c.in-Some.is in
    t.0

pub loop-next-smaller : goal.loop-next-smaller
loop-next-smaller c =
    let v = c.loop-next.invariant in
    let t = stands-at _ _ _ _ _ _ v.1 v.2 c.in-Some.j c.in-Some.is in
    omega (arith, row_within _ _ _ _ _ _ t.1 t.0)

pub loop-next-preserved : goal.loop-next-preserved
loop-next-preserved c =
    let v = c.loop-next.invariant in
    let t = stands-at _ _ _ _ _ _ v.1 v.2 c.in-Some.j c.in-Some.is in
    let f = c.next_after-next.ensures in
    (v.0, f.1, stand-next _ _ _ _ _ _ t.1 c.count_alike.result _ t.0 c.count_alike.ensures.value f.0)

pub returns : goal.returns
returns c =
    let v = c.loop-next.invariant in
    let t = stands-last _ _ _ _ _ _ v.1 v.2 c.in_default.is in
    let w = stand-end _ _ _ _ _ _ t (omega arith) v.0 c.args.self.now.few in
    record {
      number_value = refl;
      count_value = w.0;
      rows_value = w.1;
      count_bound = omega (arith, v.2.fits, due-most c.args.self.now.n c.args.self.now.s.now, c.args.self.now.few);
    }
