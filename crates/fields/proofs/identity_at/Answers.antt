-- An identity has 64 bytes at most, so the first 65 characters of the value are judged as the whole.
use mathlib.Core.Path.{ap, ◌∙◌}
use Rattle.fields.specs.Fields.{identity_ok}
use Rattle.fields.proofs.Identities.{identity-copied}
use Rattle.fields.proofs.identity_at.Goals as goal

pub returns : goal.returns
returns c = c.is_identity.ensures ∙ ap identity_ok c.front.ensures ∙ identity-copied _
