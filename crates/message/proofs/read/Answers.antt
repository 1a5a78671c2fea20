-- The length, and then the rest.
use Rattle.std.proofs.Common.{◌∙◌, length, arith}
use Rattle.octets.proofs.Tests.{between_is, below-between, above-between}
use Rattle.message.specs.WorkingMessage.{message_says}
use Rattle.message.proofs.read.Goals as goal
use Rattle.message.proofs.read.Goals.{in_default-via-then-s-lt1, in_default-via-else-s-lt1+else-s-lt32769}

pub returns-in-1-to-32768 : goal.returns-in-1-to-32768
unfolding message_says
returns-in-1-to-32768 c = c.read_forward.ensures ∙ rw (between_is 1 32768 (length c.args.s.now) (omega arith) (omega arith))

pub returns-in_default : goal.returns-in_default
unfolding message_says
returns-in_default c = elim c.in_default-1.branch [
  | in_default-via-then-s-lt1 w ↦ c.refused.ensures ∙ rw (below-between 1 32768 (length c.args.s.now) (omega arith))
  | in_default-via-else-s-lt1+else-s-lt32769 w ↦ c.refused.ensures ∙ rw (above-between 1 32768 (length c.args.s.now) (omega arith))
]
