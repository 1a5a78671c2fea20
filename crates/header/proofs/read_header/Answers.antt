-- The parts beside their number, or the number beside zeros.
use mathlib.Core.Path.{sym, ◌∙◌}
use Rattle.header.proofs.Reading.{header-read, header-refused}
use Rattle.header.proofs.read_header.Goals as goal

pub returns-in-Some : goal.returns-in-Some
returns-in-Some c = sym (header-read _ _ (sym c.parts_of.ensures ∙ c.in-Some.is))

pub returns-in-None : goal.returns-in-None
returns-in-None c = c.refused.ensures ∙ sym (header-refused _ (sym c.parts_of.ensures ∙ c.in-None.is))
