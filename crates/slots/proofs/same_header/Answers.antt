-- Where the headers alone differ, so do the headers with their years.
use mathlib.Core.Path.{sym, ap₂, ◌∙◌}
use Rattle.octets.specs.Bytes.{same}
use Rattle.slots.specs.WorkingSlots.{rec}
use Rattle.slots.proofs.Records.{rec-long}
use Rattle.slots.proofs.Headers.{fronts-differ}
use Rattle.slots.proofs.same_header.Goals as goal

pub returns-else-equal : goal.returns-else-equal
returns-else-equal c =
    let a = c.args in
    c.if-equal.false ∙ sym (fronts-differ (rec a.i a.s.now) (rec a.j a.s.now) (rec-long a.s.now a.i c.requires.0) (rec-long a.s.now a.j c.requires.1)
    (ap₂ same (sym c.front_at.ensures) (sym c.front_at-2.ensures) ∙ sym c.equal.ensures ∙ c.if-equal.false))
