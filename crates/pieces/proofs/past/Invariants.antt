-- The loop moves on while the test holds, which is `scan`, by any function whose tests these are.
use Rattle.std.proofs.Common.{ℕ, ◌-◌, Bool, length}
use Rattle.octets.specs.Bytes.{byte_at}
use Rattle.octets.proofs.Scans.{Scanning}
use Rattle.pieces.specs.WorkingSteps.{Tests}
use Rattle.pieces.proofs.past.Given as goal

abbrev pub invariant-loop-i : goal.invariant-loop-i
invariant-loop-i g l = (p : ℕ → Bool) → Tests (goal.F-post g l.test) p → Scanning (λ j. p (byte_at l.s j)) (length l.s) l.at l.i

abbrev pub decreases-loop-i : goal.decreases-loop-i
decreases-loop-i g l = length l.s - l.i
