-- The places of one more block stand behind those of the blocks so far.
use Rattle.std.proofs.Common.{◌≡◌, ℕ, ◌+◌, ◌*◌, arith}
use Rattle.octets.proofs.Stretches.{each-behind}
use Rattle.octets.proofs.blocks.Goals as goal

pub loop-k-preserved : goal.loop-k-preserved
loop-k-preserved g c =
    let e : 16 * c.loop-k.k + 16 ≡ 16 * (c.loop-k.k + 1) = omega arith in
    rw e at (each-behind (λ (k : ℕ). goal.F-post g c.args.stirs k 0) (16 * c.loop-k.k) 16 c.loop-k.invariant (c.is_block.ensures c.if-not-is_block.false))
