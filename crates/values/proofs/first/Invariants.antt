-- The first from the place on is the first from the start: comments are passed, and each character that does not stop.
use Prim.Native.Nat.{ℕ, ◌-◌}
use mathlib.Core.Bool.{Bool}
use mathlib.Core.Path.{◌≡◌}
use lib.ListN.{length}
use Rattle.values.specs.WorkingSteps.{Computes, first_at}
use Rattle.values.proofs.first.Given as goal

abbrev pub invariant-loop-c : goal.invariant-loop-c
invariant-loop-c g l = (p : ℕ → Bool) → Computes (goal.F-post g l.stops) p → first_at p l.s l.i ≡ first_at p l.s l.at

abbrev pub decreases-loop-c : goal.decreases-loop-c
decreases-loop-c g l = length l.s - l.i
