-- While the characters behind agree, the rest of the value and the rest of w decide.
use Prim.Native.Nat.{ℕ}
use Rattle.values.specs.Value.{value_at}
use Rattle.values.specs.WorkingSteps.{Computes}
use Rattle.values.proofs.Loops.{Matching}
use Rattle.values.proofs.matches.Given as goal

abbrev pub invariant-loop-b : goal.invariant-loop-b
invariant-loop-b g l = (f : ℕ → ℕ) → Computes (goal.F-post g l.form) f → Matching f l.s (value_at l.s l.at) l.w l.i l.b-index
