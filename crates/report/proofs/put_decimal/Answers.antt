-- One digit below 10, else two.
use mathlib.Core.Path.{ap}
use native.Mathlib.Omega.{arith}
use lib.ListN.{length}
use Rattle.octets.proofs.Numbers.{length_digits}
use Rattle.sentence.proofs.Writers.{named}
use Rattle.report.proofs.Choices.{decimal-one, decimal-two}
use Rattle.report.proofs.put_decimal.Goals as goal

pub put_number-requires : goal.put_number-requires
put_number-requires c = omega (arith, ap length (decimal-one c.args.v c.if-v-lt10.true), length_digits 1 c.args.v, c.requires)

pub put_number-requires-else-v-lt10 : goal.put_number-requires-else-v-lt10
put_number-requires-else-v-lt10 c = omega (arith, ap length (decimal-two c.args.v c.if-v-lt10.false), length_digits 2 c.args.v, c.requires)

pub returns-then-v-lt10 : goal.returns-then-v-lt10
returns-then-v-lt10 c = named c.put_number.ensures _ (decimal-one _ c.if-v-lt10.true)

pub returns-else-v-lt10 : goal.returns-else-v-lt10
returns-else-v-lt10 c = named c.put_number-else-v-lt10.ensures _ (decimal-two _ c.if-v-lt10.false)
