-- Each number, and one that is none of them.
use Rattle.std.proofs.Common.{rules, tests}
use Rattle.parts.specs.Originator.{numbered}
use Rattle.parts.proofs.originator_numbered.Goals as goal

pub returns-in-1 : goal.returns-in-1
unfolding numbered
returns-in-1 c = search (rules, tests)

pub returns-in-2 : goal.returns-in-2
unfolding numbered
returns-in-2 c = search (rules, tests)

pub returns-in-3 : goal.returns-in-3
unfolding numbered
returns-in-3 c = search (rules, tests)

pub returns-in-4 : goal.returns-in-4
unfolding numbered
returns-in-4 c = search (rules, tests)

pub returns-in_default : goal.returns-in_default
unfolding numbered
returns-in_default c = search (rules, tests)
