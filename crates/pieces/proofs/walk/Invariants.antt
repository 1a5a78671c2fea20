-- What is left to walk is what was to walk, by any function whose steps these are.
use Rattle.std.proofs.Common.{ℕ, ◌-◌, length}
use Rattle.pieces.specs.declared.Step.{Step}
use Rattle.pieces.specs.WorkingSteps.{Follows}
use Rattle.pieces.proofs.Walks.{Walking}
use Rattle.pieces.proofs.walk.Given as goal

abbrev pub invariant-loop-j : goal.invariant-loop-j
invariant-loop-j g l = (f : ℕ → Step) → Follows (goal.F-post g l.step) f → Walking f l.s l.at l.i

abbrev pub decreases-loop-j : goal.decreases-loop-j
decreases-loop-j g l = length l.s - l.i
