-- The key is put behind the kind.
use Rattle.records.proofs.Making.{withdrawal-put}
use Rattle.records.proofs.withdrawal_of.Goals as goal

pub returns : goal.returns
returns c = withdrawal-put _ _ c.requires c.of_kind.ensures
