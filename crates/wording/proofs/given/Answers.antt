-- The greater of what instruction leaves and one half.
use native.Mathlib.Omega.{arith}
use Rattle.wording.specs.WorkingGiven.{given_to}
use Rattle.wording.proofs.given.Goals as goal

pub returns : goal.returns
unfolding given_to
returns c = omega arith
