use Rattle.std.proofs.Common.{arith}
use Rattle.std.proofs.lemmas.Grind.{common_steps}
use Rattle.octets.specs.Bytes.{every}
use Rattle.judgement.proofs.is_complete.Goals as goal

pub returns-then-not-is_unplaced : goal.returns-then-not-is_unplaced
unfolding every
returns-then-not-is_unplaced c = grind (arith, common_steps)

pub returns-else-not-is_unplaced : goal.returns-else-not-is_unplaced
unfolding every
returns-else-not-is_unplaced c = grind (arith, common_steps)
