-- Each turn puts the next character of those that are taken, and what is left to put is what is left of them.
use Rattle.values.specs.WorkingSteps.{rest_at}
use Rattle.values.proofs.Loops.{Copying}
use Rattle.values.proofs.copy_rest.Given as goal

abbrev pub invariant-loop-k : goal.invariant-loop-k
invariant-loop-k l = Copying l.s (rest_at l.s l.at) l.g l.initial.out l.to l.out l.i l.k
