-- A key, and zeros behind it.
use mathlib.Core.Path.{◌∙◌}
use Rattle.records.proofs.Making.{withdrawal-made}
use Rattle.records.proofs.Record.withdrawal.Goals as goal

pub returns : goal.returns
returns c = c.keyed-bytes.ensures ∙ withdrawal-made _
