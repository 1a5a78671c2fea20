use native.Mathlib.Omega.{arith}
use Rattle.octets.specs.Bytes.{is_capital}
use Rattle.octets.proofs.Tests.{between_is, below-between, above-between}
use Rattle.values.specs.Value.{small}
use Rattle.values.proofs.small.Goals as goal

pub returns-in-65-to-90 : goal.returns-in-65-to-90
unfolding small is_capital
returns-in-65-to-90 c = rw (between_is 65 90 c.args.c (omega arith) (omega arith))

pub returns-in_default : goal.returns-in_default
unfolding small is_capital
returns-in_default c = rw (below-between 65 90 c.args.c (omega arith))

pub returns-in_default-2 : goal.returns-in_default-2
unfolding small is_capital
returns-in_default-2 c = rw (above-between 65 90 c.args.c (omega arith))
