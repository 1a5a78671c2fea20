-- A time has 25 bytes, so the first 26 characters of the value are judged as the whole.
use mathlib.Core.Path.{ap, ◌∙◌}
use Rattle.clock.specs.Time.{time_of}
use Rattle.fields.proofs.Identities.{time-copied}
use Rattle.fields.proofs.time_at.Goals as goal

pub returns : goal.returns
returns c = c.instant.ensures ∙ ap time_of c.front.ensures ∙ time-copied _
