-- The number beside zeros.
use mathlib.Core.Path.{ap}
use Rattle.parts.specs.Parts.{no_station}
use Rattle.parts.specs.declared.Body.{Body}
use Rattle.header.proofs.refused.Goals as goal

pub returns : goal.returns
returns c = ap (λ (b : Body). record { number = 17; parts = record { body = b; station = no_station } }) c.no_body.ensures
