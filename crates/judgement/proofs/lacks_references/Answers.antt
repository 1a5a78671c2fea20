-- Only an Update or a Cancel is asked.
use mathlib.Core.Path.{sym, ◌∙◌}
use Rattle.judgement.specs.WorkingRules.{lacks_references}
use Rattle.judgement.proofs.lacks_references.Goals as goal

pub returns-then-asks_references : goal.returns-then-asks_references
unfolding lacks_references
returns-then-asks_references c = rw (sym c.asks_references.ensures ∙ c.if-asks_references.true, c.has_references.ensures)

pub returns-else-asks_references : goal.returns-else-asks_references
unfolding lacks_references
returns-else-asks_references c = rw (sym c.asks_references.ensures ∙ c.if-asks_references.false) c.if-asks_references.false
