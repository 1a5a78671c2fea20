use mathlib.Core.Path.{sym, ◌∙◌}
use Rattle.octets.specs.Text.{bytes}
use Rattle.octets.specs.Bytes.{every, between, is_capital}
use Rattle.values.specs.Value.{small}
use Rattle.reads.proofs.is_broadcast_text.Goals as goal

pub returns-then-equal_any_case : goal.returns-then-equal_any_case
unfolding bytes small is_capital between every
returns-then-equal_any_case c = rw (sym c.equal_any_case.ensures ∙ c.if-equal_any_case.true, c.is_empty.ensures)

pub returns-else-equal_any_case : goal.returns-else-equal_any_case
unfolding bytes small is_capital between every
returns-else-equal_any_case c = rw (sym c.equal_any_case.ensures, c.if-equal_any_case.false)
