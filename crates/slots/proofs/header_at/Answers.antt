-- That which its record carries.
use mathlib.Core.Path.{ap, ◌∙◌}
use lib.ListN.{length}
use Rattle.records.specs.Record.{carried}
use Rattle.slots.proofs.Records.{rec-long}
use Rattle.slots.proofs.header_at.Goals as goal

pub carried_by-requires : goal.carried_by-requires
carried_by-requires c = ap length c.record_at.ensures ∙ rec-long c.args.s.now c.args.i c.requires

pub returns : goal.returns
returns c = c.carried_by.ensures ∙ ap carried c.record_at.ensures
