-- The writer goes as far as there are digits.
use mathlib.Core.Path.{refl}
use native.Mathlib.Omega.{arith}
use Rattle.octets.proofs.Numbers.{length_digits}
use Rattle.sentence.proofs.Writer.put_number.Goals as goal

pub returns : goal.returns
returns c = record { same = refl; is = c.put_number.ensures; ends = omega (arith, length_digits c.args.n c.args.v); long = omega arith }
