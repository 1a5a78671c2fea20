-- Where it is before the header alone, it is before the header with its year.
use mathlib.Core.Path.{sym, ap, ◌∙◌}
use Rattle.octets.specs.Order.{cmp}
use Rattle.slots.specs.WorkingSlots.{rec}
use Rattle.slots.proofs.Records.{rec-long}
use Rattle.slots.proofs.Headers.{front_less}
use Rattle.slots.proofs.compare_header.Goals as goal

pub returns-in-Less : goal.returns-in-Less
returns-in-Less c =
    let a = c.args in
    sym (front_less a.h.now (rec a.i a.s.now) (rec-long a.s.now a.i c.requires)
    (ap (cmp a.h.now) (sym c.front_at.ensures) ∙ sym c.compare.ensures ∙ c.in-Less.is))
