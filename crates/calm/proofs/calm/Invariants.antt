-- The calm blocks first, and then byte by byte.
use Rattle.calm.specs.WorkingCalm.{Calm}
use Rattle.calm.proofs.calm.Given as goal

abbrev pub invariant-loop-n : goal.invariant-loop-n
invariant-loop-n l = Calm l.s l.at l.n
