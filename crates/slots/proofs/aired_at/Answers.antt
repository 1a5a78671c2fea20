-- Of the header that the record carries.
use mathlib.Core.Path.{ap, ◌∙◌}
use Rattle.records.specs.Record.{aired}
use Rattle.slots.proofs.aired_at.Goals as goal

pub returns : goal.returns
returns c = c.aired.ensures ∙ ap aired c.header_at.ensures
