-- Where the test of a byte gives 0, the byte is calm before the one behind it.
use Rattle.std.proofs.Common.{rules, arith}
use Rattle.calm.proofs.calm_blocks.Goals as goal

pub returns : goal.returns
returns c =
    let b = c.blocks-2.ensures in
    (omega (arith, b.upper_bound, c.min-room.ensures), λ j h. let e = b.still j h in search (rules, e))
