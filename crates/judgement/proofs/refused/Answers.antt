-- A message of which nothing is read gives no header.
use mathlib.Core.Bool.{false}
use mathlib.Core.Path.{ap, ◌∙◌}
use Rattle.message.specs.declared.Message.{Message}
use Rattle.judgement.specs.WorkingJudged.{without}
use Rattle.judgement.proofs.refused.Goals as goal

pub returns : goal.returns
returns c = c.no_header.ensures ∙ ap (λ (m : Message). without m c.args.number false) c.refused.ensures
