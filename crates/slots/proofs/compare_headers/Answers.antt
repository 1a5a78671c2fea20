-- The headers alone decide unless they are the same.
use mathlib.Core.Path.{ap₂, ◌∙◌}
use Rattle.std.proofs.Common.{rules}
use Rattle.octets.specs.Order.{cmp}
use Rattle.slots.specs.WorkingSlots.{rec}
use Rattle.slots.proofs.Records.{rec-long}
use Rattle.slots.proofs.Headers.{headers-then}
use Rattle.slots.proofs.compare_headers.Goals as goal

pub returns : goal.returns
returns c =
    let a = c.args in
    headers-then (rec a.i a.s.now) (rec a.j a.s.now) (rec-long a.s.now a.i c.requires.0) (rec-long a.s.now a.j c.requires.1) _ _ _
    (c.compare.ensures ∙ ap₂ cmp c.front_at.ensures c.front_at-2.ensures)
    (λ p. search rules) c.then_with.ensures
