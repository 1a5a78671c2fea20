-- The loop goes by steps that `take` answers, which is `walk`; `many` promises the same of the whole, and the walk behind the loop is the rest of it.
use Rattle.pieces.proofs.Walks.{Walking}
use Rattle.tags.specs.Tags.{take_at}
use Rattle.tags.proofs.attributes.Given as goal

abbrev pub invariant-loop : goal.invariant-loop
invariant-loop l = Walking (take_at l.s l.at) l.s l.at l.i
