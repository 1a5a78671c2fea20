use mathlib.Core.Path.{sym, ◌∙◌}
use Rattle.markup.proofs.Declarations.{at_mark, goes_on}
use Rattle.markup.proofs.in_declaration.Goals as goal

pub returns-then-stands_at : goal.returns-then-stands_at
returns-then-stands_at c = at_mark c.args.s.now c.args.i (sym c.stands_at.ensures ∙ c.if-stands_at.true)

pub returns-else-stands_at : goal.returns-else-stands_at
returns-else-stands_at c = c.coded_width.ensures ∙ goes_on c.args.s.now c.args.i (sym c.stands_at.ensures ∙ c.if-stands_at.false)
