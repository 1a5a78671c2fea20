-- At each place of the blocks so far the answer was 0.
use Rattle.std.proofs.Common.{ℕ, ◌*◌, ◌<◌}
use Rattle.octets.proofs.blocks.Given as goal

abbrev pub invariant-loop-k : goal.invariant-loop-k
invariant-loop-k g l = (k : ℕ) → k < 16 * l.k → goal.F-post g l.stirs k 0
