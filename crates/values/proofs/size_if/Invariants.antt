-- Each turn reads a run of calm bytes, which are of 32 to 126, and the character behind it, as long as each fits.
use Prim.Native.Nat.{ℕ, ◌-◌}
use mathlib.Core.Bool.{Bool}
use lib.ListN.{length}
use Rattle.calm.proofs.Calms.{Near}
use Rattle.values.specs.Value.{value_at}
use Rattle.values.specs.WorkingSteps.{Computes, TakesPrintable}
use Rattle.values.proofs.Loops.{Reading}
use Rattle.values.proofs.Printables.{Fitting}
use Rattle.values.proofs.size_if.Given as goal

abbrev pub invariant-loop-c : goal.invariant-loop-c
invariant-loop-c g l =
    Reading l.s (value_at l.s l.at) l.i l.k
    × (Near l.s l.initial.i l.i
    × ((p : ℕ → Bool) → Computes (goal.F-post g l.fits) p → TakesPrintable p → Fitting p l.s (value_at l.s l.at) l.i l.k))

abbrev pub decreases-loop-c : goal.decreases-loop-c
decreases-loop-c g l = length l.s - l.i
