-- Eight bytes are all of them, and other bytes are no station.
use mathlib.Core.Path.{◌∙◌}
use Rattle.parts.proofs.Chunks.{whole-or}
use Rattle.parts.specs.Parts.{no_station}
use Rattle.parts.specs.WorkingAsked.{asked_station}
use Rattle.parts.proofs.asked_station.Goals as goal

pub returns : goal.returns
unfolding asked_station
returns c = c.unwrap_or.ensures ∙ whole-or c.try_from.result c.args.t.now no_station 8 c.try_from.ensures.1
