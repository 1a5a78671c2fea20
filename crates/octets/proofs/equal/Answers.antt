use mathlib.Core.Path.{◌∙◌}
use Rattle.octets.proofs.Sames.{same-pointwise}
use Rattle.octets.proofs.equal.Goals as goal

pub returns : goal.returns
returns c = c.eq.ensures ∙ same-pointwise _ _
