use Prim.Native.Nat.{◌+◌}
use mathlib.Core.Path.{◌≡◌, sym, ◌∙◌}
use native.Mathlib.Omega.{arith}
use Rattle.calm.proofs.Marks.{mark-most}
use Rattle.values.specs.WorkingSteps.{low, rest_at}
use Rattle.values.proofs.Copies.{low-is}
use Rattle.values.proofs.Loops.{mark-is, More, rest-starts, copy-starts, read_more, read_done, in_take, copy_more, copy_done, copy-full}
use Rattle.values.proofs.copy_rest.Goals as goal

-- a mark is the next character
marked : (c : goal.Then-is_mark) → let a = c.args in let l = c.loop-k in More a.s.now (rest_at a.s.now a.at) l.i l.k c.byte-b.result (l.i + 1)
marked c = read_more c.loop-k.invariant.reads _ _ (mark-is _ _ _ _ c.byte-b.ensures c.is_mark.ensures c.if-is_mark.true)

pub loop-k-init : goal.loop-k-init
loop-k-init c = let a = c.args in copy-starts (rest-starts a.s.now a.at) _ _ _

pub overflow_add-out : goal.overflow_add-out
overflow_add-out c = omega (arith, in_take (marked c) c.loop-k-test.true, c.requires, c.loop-k.invariant.long)

pub bounds-out-to : goal.bounds-out-to
bounds-out-to c = omega (arith, in_take (marked c) c.loop-k-test.true, c.requires, c.loop-k.invariant.long)

pub overflow_add-i : goal.overflow_add-i
overflow_add-i c = let l = (marked c).goes.in-it in omega arith

-- and its own byte
pub loop-k-preserved-then-is_mark : goal.loop-k-preserved-then-is_mark
loop-k-preserved-then-is_mark c =
    let l = mark-most c.byte-b.result (sym c.is_mark.ensures ∙ c.if-is_mark.true) in
    copy_more c.loop-k.invariant _ (marked c) c.loop-k-test.true (sym (low-is _ (omega (arith, l))))

pub returns-in_default : goal.returns-in_default
returns-in_default c =
    let r = c.loop-k.invariant in
    let both = copy_done r (read_done r.reads (sym c.slow.ensures ∙ c.in_default.is)) in
    record { value = both.0; out_after = both.1 }

pub bounds-out-to-in-loop-k : goal.bounds-out-to-in-loop-k
bounds-out-to-in-loop-k c =
    let r = c.loop-k.invariant in
    omega (arith, in_take (read_more r.reads _ _ (sym c.slow.ensures ∙ c.in-Some.is)) c.loop-k-test.true, c.requires, r.long)

pub loop-k-preserved : goal.loop-k-preserved
loop-k-preserved c =
    let r = c.loop-k.invariant in
    copy_more r _ (read_more r.reads _ _ (sym c.slow.ensures ∙ c.in-Some.is)) c.loop-k-test.true c.low_of.ensures

pub returns : goal.returns
returns c =
    let both = copy-full c.loop-k.invariant c.loop-k-test.false in
    let e : c.args.g ≡ c.loop-k.k = omega arith in
    record { value = e ∙ both.0; out_after = both.1 }
