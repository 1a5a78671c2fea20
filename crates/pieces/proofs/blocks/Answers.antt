-- Where the test of a byte gives 0, it is one of a run.
use Rattle.std.proofs.Common.{rules}
use Rattle.pieces.proofs.blocks.Goals as goal

pub returns : goal.returns
returns c = λ j h. let e = c.blocks-2.ensures.still j h in search (rules, e)
