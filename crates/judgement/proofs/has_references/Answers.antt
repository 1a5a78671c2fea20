-- A leaf that is the only one, and then its value.
use mathlib.Core.Path.{sym, ◌∙◌}
use Rattle.judgement.specs.WorkingRules.{referenced}
use Rattle.judgement.proofs.has_references.Goals as goal

pub returns-then-is_only : goal.returns-then-is_only
unfolding referenced
returns-then-is_only c = rw (sym c.is_only.ensures ∙ c.if-is_only.true) c.references_at.ensures

pub returns-else-is_only : goal.returns-else-is_only
unfolding referenced
returns-else-is_only c = rw (sym c.is_only.ensures ∙ c.if-is_only.false) c.if-is_only.false
