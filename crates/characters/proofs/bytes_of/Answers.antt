-- By the ranges of the definition.
use mathlib.Core.Path.{sym, ap}
use native.Mathlib.Omega.{arith}
use lib.ListN.{length}
use Rattle.characters.proofs.Forms.{encoded-one, encoded-two, encoded-three, encoded-four}
use Rattle.characters.proofs.bytes_of.Goals as goal

pub returns-in-0-to-127 : goal.returns-in-0-to-127
returns-in-0-to-127 c = sym (ap length (encoded-one c.args.c (omega arith)))

pub returns-in-128-to-2047 : goal.returns-in-128-to-2047
returns-in-128-to-2047 c = sym (ap length (encoded-two c.args.c (omega arith) (omega arith)))

pub returns-in-2048-to-65535 : goal.returns-in-2048-to-65535
returns-in-2048-to-65535 c = sym (ap length (encoded-three c.args.c (omega arith) (omega arith)))

pub returns-in_default : goal.returns-in_default
returns-in_default c = sym (ap length (encoded-four c.args.c (omega arith)))
