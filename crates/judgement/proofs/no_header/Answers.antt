-- There is no body.
use Rattle.judgement.proofs.no_header.Goals as goal

pub returns : goal.returns
returns c = rw c.no_body.ensures
