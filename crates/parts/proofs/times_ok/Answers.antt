-- One test after the other; the last decides.
use Rattle.std.proofs.Common.{arith}
use Rattle.std.proofs.lemmas.Grind.{common_steps}
use Rattle.octets.specs.Bytes.{every, between}
use Rattle.parts.specs.Parts.{times_ok}
use Rattle.parts.proofs.times_ok.Goals as goal

pub returns-then-hour-le23 : goal.returns-then-hour-le23
unfolding times_ok every between
returns-then-hour-le23 c = grind (arith, common_steps)

pub returns-else-hour-le23 : goal.returns-else-hour-le23
unfolding times_ok every between
returns-else-hour-le23 c = grind (arith, common_steps)
