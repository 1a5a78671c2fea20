-- A shift divides by a power of 2.
use Rattle.tags.specs.WorkingTree.{bit_of}
use Rattle.tags.proofs.turn.Goals as goal

pub returns : goal.returns
unfolding bit_of
returns c = rw (c.from.ensures, c.byte.ensures)
