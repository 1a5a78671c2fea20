-- The loop moves on while there is a width, which is `scan_by`, by any functions whose widths these are.
use Rattle.std.proofs.Common.{ℕ, ◌-◌, Bool, length}
use Rattle.octets.proofs.Scans.{ScanningBy}
use Rattle.pieces.specs.WorkingSteps.{Widths}
use Rattle.pieces.proofs.through.Given as goal

abbrev pub invariant-loop-width : goal.invariant-loop-width
invariant-loop-width g l = (w : ℕ → ℕ) (p : ℕ → Bool) → Widths (goal.F-post g l.width) w p → ScanningBy w p (length l.s) l.at l.i

abbrev pub decreases-loop-width : goal.decreases-loop-width
decreases-loop-width g l = length l.s - l.i
