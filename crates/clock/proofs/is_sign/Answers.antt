-- Each of the two signs, and a byte that is neither.
use Rattle.std.proofs.Common.{rules, tests}
use Rattle.octets.specs.Bytes.{one_of}
use Rattle.clock.specs.Time.{is_sign}
use Rattle.clock.proofs.is_sign.Goals as goal

pub returns-in-43 : goal.returns-in-43
unfolding is_sign one_of
returns-in-43 c = search (rules, tests)

pub returns-in_default : goal.returns-in_default
unfolding is_sign one_of
returns-in_default c = search (rules, tests)
