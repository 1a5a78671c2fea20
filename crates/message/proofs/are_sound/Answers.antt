use Rattle.std.proofs.Common.{arith}
use Rattle.std.proofs.lemmas.Grind.{common_steps}
use Rattle.octets.specs.Bytes.{every}
use Rattle.message.proofs.are_sound.Goals as goal

pub returns-then-not-i-3 : goal.returns-then-not-i-3
unfolding every
returns-then-not-i-3 c = grind (arith, common_steps)

pub returns-else-not-i-3 : goal.returns-else-not-i-3
unfolding every
returns-else-not-i-3 c = grind (arith, common_steps)
