-- By whether a character stands there.
use mathlib.Core.Path.{sym, ◌∙◌}
use borrow.Author.Tests.{ne_eqb}
use Rattle.characters.specs.Utf8.{width_at}
use Rattle.characters.proofs.width_at.Goals as goal

pub returns-then-c-eq0 : goal.returns-then-c-eq0
unfolding width_at
returns-then-c-eq0 c = rw (sym c.scalar-c.ensures ∙ c.if-c-eq0.true)

pub returns-else-c-eq0 : goal.returns-else-c-eq0
unfolding width_at
returns-else-c-eq0 c = rw (← c.scalar-c.ensures, ne_eqb c.scalar-c.result 0 c.if-c-eq0.false) c.bytes_of.ensures
