-- By the three tests: a notice, its withdrawal not held, the aired record of its header not held.
use Prim.Native.Nat.{ℕ}
use mathlib.Core.Path.{sym, ap, ◌∙◌}
use mathlib.Core.List.{List}
use Rattle.records.specs.Record.{withdrawal}
use Rattle.ledger.specs.Sorted.{has}
use Rattle.slots.specs.WorkingSlots.{rec}
use Rattle.slots.specs.Slots.{recs}
use Rattle.slots.proofs.Records.{kind-rec}
use Rattle.board.proofs.Finds.{key-part, not-a-notice, is-withdrawn, live-by}
use Rattle.board.proofs.is_live.Goals as goal

pub returns-then-s-at-ne-NOTICE : goal.returns-then-s-at-ne-NOTICE
returns-then-s-at-ne-NOTICE c =
    let a = c.args in
    not-a-notice (recs a.n a.s.now) (rec a.i a.s.now) (λ e. c.if-s-at-ne-NOTICE.true (sym (kind-rec a.s.now a.i) ∙ e))

pub returns-then-not-holds : goal.returns-then-not-holds
returns-then-not-holds c =
    let a = c.args in
    let b = recs a.n a.s.now in
    live-by b (rec a.i a.s.now) c.holds-then-not-holds.result
    (kind-rec a.s.now a.i ∙ c.if-s-at-ne-NOTICE.false)
    (ap (λ (x : List ℕ). has x b) (sym (c.withdrawal_of-withdrawal.ensures ∙ ap withdrawal (key-part a.s.now a.i))) ∙ sym c.if-not-holds.ensures)
    (c.holds-then-not-holds.ensures ∙ ap (λ (x : List ℕ). has x b) c.aired_at.ensures)

pub returns-else-not-holds : goal.returns-else-not-holds
returns-else-not-holds c =
    let a = c.args in
    let b = recs a.n a.s.now in
    rw c.if-not-holds.false (is-withdrawn b (rec a.i a.s.now) (ap (λ (x : List ℕ). has x b) (sym (c.withdrawal_of-withdrawal.ensures ∙ ap withdrawal (key-part a.s.now a.i))) ∙ sym c.if-not-holds.ensures))
