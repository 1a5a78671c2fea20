-- The body beside its number, or the number beside zeros.
use mathlib.Core.Path.{sym, ◌∙◌}
use Rattle.header.proofs.Reading.{body-read, body-refused}
use Rattle.header.proofs.read_body.Goals as goal

pub returns-in-Some : goal.returns-in-Some
returns-in-Some c = sym (body-read _ _ (sym c.body_in.ensures ∙ c.in-Some.is))

pub returns-in-None : goal.returns-in-None
returns-in-None c = c.refused_body.ensures ∙ sym (body-refused _ (sym c.body_in.ensures ∙ c.in-None.is))
