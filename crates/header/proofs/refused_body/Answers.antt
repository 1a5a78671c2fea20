-- The number beside zeros.
use mathlib.Core.Path.{ap}
use Rattle.parts.specs.declared.Body.{Body}
use Rattle.header.proofs.refused_body.Goals as goal

pub returns : goal.returns
returns c = ap (λ (b : Body). record { number = 17; body = b }) c.no_body.ensures
