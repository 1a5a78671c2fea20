-- White space is below 33, and a mark is not.
use native.Mathlib.Omega.{arith}
use Rattle.calm.specs.WorkingCalm.{soft}
use Rattle.calm.proofs.softened.Goals as goal

pub returns : goal.returns
unfolding soft
returns c = grind arith
