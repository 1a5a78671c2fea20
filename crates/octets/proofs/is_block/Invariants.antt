-- As long as the sum of the answers is 0, each so far was 0.
use Rattle.std.proofs.Common.{◌≡◌, ℕ, ◌+◌, ◌*◌, ◌<◌, ◌≤◌}
use Rattle.octets.proofs.is_block.Given as goal

abbrev pub invariant-loop-k : goal.invariant-loop-k
invariant-loop-k g l = (l.n ≤ 15 * l.k) × (l.n ≡ 0 → (k : ℕ) → k < l.k → goal.F-post g l.stirs (l.at + k) 0)
