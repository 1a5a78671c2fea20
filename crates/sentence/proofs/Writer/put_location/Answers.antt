-- Six digits.
use native.Mathlib.Omega.{arith}
use Rattle.octets.proofs.Numbers.{length_digits}
use Rattle.sentence.specs.Words.{location_word}
use Rattle.sentence.proofs.Writer.put_location.Goals as goal

pub put_number-requires : goal.put_number-requires
unfolding location_word
put_number-requires c = omega (arith, length_digits 6 c.args.v)

pub returns : goal.returns
unfolding location_word
returns c = c.put_number.ensures
