-- Both tests, as the code has them.
use mathlib.Core.Bool.{and-true}
use Rattle.octets.specs.Bytes.{every}
use Rattle.judgement.specs.WorkingRules.{unplaced}
use Rattle.judgement.proofs.is_unplaced.Goals as goal

pub returns-then-not-l : goal.returns-then-not-l
unfolding unplaced every
returns-then-not-l c = rw (c.if-not-l.true, and-true)

pub returns-else-not-l : goal.returns-else-not-l
unfolding unplaced every
returns-else-not-l c = rw c.if-not-l.false
