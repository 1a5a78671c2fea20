-- Where all five tests give 0 the byte is one of a run, and so is the end of a line.
use native.Mathlib.Omega.{arith}
use Rattle.pieces.proofs.Sixteens.{still-run, line-run}
use Rattle.pieces.proofs.stirs.Goals as goal

pub returns-then-equals-eq0 : goal.returns-then-equals-eq0
returns-then-equals-eq0 c =
    record { b_value = still-run c.args.b _ _ _ _ _ c.under.ensures.value c.under-2.ensures.value c.equals.ensures.value c.equals-2.ensures.value c.equals-3.ensures.value; upper_bound = omega (arith, c.under.ensures.upper_bound, c.under-2.ensures.upper_bound, c.equals.ensures.upper_bound, c.equals-2.ensures.upper_bound, c.equals-3.ensures.upper_bound) }

pub returns-else-equals-eq0 : goal.returns-else-equals-eq0
returns-else-equals-eq0 c = record { b_value = λ z. line-run c.args.b _ c.equals-4.ensures.value c.if-equals-eq0.false; upper_bound = omega arith }
