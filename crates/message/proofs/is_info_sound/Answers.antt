use Rattle.std.proofs.Common.{arith}
use Rattle.std.proofs.lemmas.Grind.{common_steps}
use Rattle.octets.specs.Bytes.{every}
use Rattle.message.specs.WorkingJudged.{info_ok}
use Rattle.message.proofs.is_info_sound.Goals as goal

pub returns-then-is_sound-4 : goal.returns-then-is_sound-4
unfolding info_ok every
returns-then-is_sound-4 c = grind (arith, common_steps)

pub returns-else-is_sound-4 : goal.returns-else-is_sound-4
unfolding info_ok every
returns-else-is_sound-4 c = grind (arith, common_steps)
