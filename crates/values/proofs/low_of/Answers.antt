-- Below 128 the low eight bits are the character.
use borrow.Author.Tests.{lt-ltb, le-ltb}
use Rattle.values.specs.WorkingSteps.{low}
use Rattle.values.proofs.low_of.Goals as goal

pub returns-then-c-lt128 : goal.returns-then-c-lt128
unfolding low
returns-then-c-lt128 c = rw (lt-ltb c.args.c 128 c.if-c-lt128.true)

pub returns-else-c-lt128 : goal.returns-else-c-lt128
unfolding low
returns-else-c-lt128 c = rw (le-ltb c.args.c 128 c.if-c-lt128.false)
