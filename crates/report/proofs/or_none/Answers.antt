-- By whether there is a value.
use mathlib.Core.Path.{sym, ◌∙◌}
use borrow.Author.Tests.{eqb-true, eqb-false}
use Rattle.octets.specs.Text.{bytes}
use Rattle.report.proofs.Choices.{or-none, or-itself}
use Rattle.report.proofs.or_none.Goals as goal

pub returns-then-is_empty : goal.returns-then-is_empty
unfolding bytes
returns-then-is_empty c = sym (or-none c.args.v.now (eqb-true _ 0 (sym c.is_empty.ensures ∙ c.if-is_empty.true)))

pub returns-else-is_empty : goal.returns-else-is_empty
returns-else-is_empty c = sym (or-itself c.args.v.now (eqb-false _ 0 (sym c.is_empty.ensures ∙ c.if-is_empty.false)))
