-- The header with its year is put behind 132 zeros.
use Rattle.records.proofs.Making.{aired-made}
use Rattle.records.proofs.Record.aired.Goals as goal

pub returns : goal.returns
returns c = aired-made _ _ c.requires c.of_kind.ensures
