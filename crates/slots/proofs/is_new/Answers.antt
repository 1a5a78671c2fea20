-- A record that is held, or stands earlier in the batch, does not lengthen the list; any other does by one.
use Rattle.std.proofs.Common.{List, ℕ, ap, ◌∙◌}
use Rattle.ledger.specs.Sorted.{has}
use Rattle.slots.specs.Slots.{recs}
use Rattle.slots.proofs.Records.{count-old, count-next}
use Rattle.slots.proofs.is_new.Goals as goal

pub returns-then-not-holds : goal.returns-then-not-holds
returns-then-not-holds c =
    let a = c.args in
    let is = λ (l : List (List ℕ)). ap (λ (r : List ℕ). has r l) c.record_at-r.ensures in
    count-next a.s.now a.batch.now a.n a.i c.requires.2 _ (c.holds-then-not-holds.ensures ∙ is (recs a.i a.batch.now)) (c.if-not-holds.ensures ∙ is (recs a.n a.s.now))

pub returns-else-not-holds : goal.returns-else-not-holds
returns-else-not-holds c =
    let a = c.args in
    count-old a.s.now a.batch.now a.n a.i c.requires.2 _ c.if-not-holds.false (c.if-not-holds.ensures ∙ ap (λ (r : List ℕ). has r (recs a.n a.s.now)) c.record_at-r.ensures)
