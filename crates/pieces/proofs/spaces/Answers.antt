use Rattle.std.proofs.Common.{rules}
use Rattle.pieces.proofs.Inside.{no-space}
use Rattle.pieces.proofs.spaces.Goals as goal

pub past-requires-clause-not_past_end : goal.past-requires-clause-not_past_end
past-requires-clause-not_past_end c = λ h. no-space (search rules)
