-- Body and station, each by its own function.
use mathlib.Core.Path.{ap, ◌∙◌}
use Rattle.parts.specs.WorkingAsked.{asked_parts}
use Rattle.std.specs.Option.{unwrap_or}
use Rattle.parts.proofs.asked_parts.Goals as goal

pub returns : goal.returns
unfolding asked_parts
returns c = λ i. record {
  body = (c.unwrap_or.ensures ∙ ap (unwrap_or c.asked_body-asked.result) c.no_body.ensures ∙ c.asked_body-asked.ensures) i;
  station = c.asked_station.ensures i;
}
