-- A character is behind for each turn.
use Rattle.values.specs.WorkingSteps.{rest_at}
use Rattle.values.proofs.Loops.{Reading}
use Rattle.values.proofs.exceeds.Given as goal

abbrev pub invariant-loop : goal.invariant-loop
invariant-loop l = Reading l.s (rest_at l.s l.at) l.i l.counter
