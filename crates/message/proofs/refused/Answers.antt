-- Nothing is read.
use Rattle.message.proofs.refused.Goals as goal

pub returns : goal.returns
returns c = rw c.new_state.ensures
