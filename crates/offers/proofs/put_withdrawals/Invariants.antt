-- Each turn puts the withdrawal of one reference, and those behind it are left.
use lib.ListN.{length}
use Rattle.fields.specs.References.{words}
use Rattle.values.specs.WorkingSteps.{rest_at}
use Rattle.offers.proofs.Putting.{Putting}
use Rattle.offers.proofs.put_withdrawals.Given as goal

abbrev pub invariant-loop-j : goal.invariant-loop-j
invariant-loop-j l = Putting l.s l.at l.initial.batch l.n l.batch l.i l.k

abbrev pub decreases-loop-j : goal.decreases-loop-j
decreases-loop-j l = length (words (rest_at l.s l.i))
