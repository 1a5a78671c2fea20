use Rattle.std.proofs.Common.{rules}
use Rattle.values.specs.Value.{small}
use Rattle.values.proofs.equal_any_case.Goals as goal

pub returns : goal.returns
returns c = c.matches.ensures small (search rules)
