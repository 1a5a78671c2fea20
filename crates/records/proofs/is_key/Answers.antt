-- Sent, sender and identifier in turn.
use Rattle.std.proofs.Common.{◌≡◌, ◌&&◌, ltb, ◌∙◌}
use borrow.Author.Tests.{le-ltb, lt-ltb}
use Rattle.clock.specs.Time.{span}
use Rattle.fields.specs.Fields.{identity_ok}
use Rattle.records.specs.Record.{sent_in, sender_in, zero_filled, key_ok}
use Rattle.records.proofs.Judging.{asked, not-asked, third-decides, third-not-asked}
use Rattle.records.proofs.is_key.Goals as goal
use Rattle.records.proofs.is_key.Goals.{then-sent_of-lt-SPAN, else-sent_of-lt-SPAN}

pub returns-then-is_name : goal.returns-then-is_name
unfolding key_ok
returns-then-is_name c =
    let k = c.args.key.now in
    let both : c.if-sent_of-lt-SPAN.value ≡ (ltb (sent_in k) span && zero_filled identity_ok (sender_in k)) = elim c.if-sent_of-lt-SPAN.branch [
      | then-sent_of-lt-SPAN w ↦ asked _ _ _ (lt-ltb _ span (rw c.sent_of.ensures at w.if-sent_of-lt-SPAN.true)) (w.value-is ∙ w.is_name.ensures)
      | else-sent_of-lt-SPAN w ↦ not-asked _ _ _ (le-ltb _ span (rw c.sent_of.ensures at w.if-sent_of-lt-SPAN.false)) (w.value-is ∙ le-ltb _ span w.if-sent_of-lt-SPAN.false)
    ] in
    c.is_name-then-is_name.ensures ∙ third-decides _ _ _ both c.if-is_name.true _

pub returns-else-is_name : goal.returns-else-is_name
unfolding key_ok
returns-else-is_name c =
    let k = c.args.key.now in
    let both : c.if-sent_of-lt-SPAN.value ≡ (ltb (sent_in k) span && zero_filled identity_ok (sender_in k)) = elim c.if-sent_of-lt-SPAN.branch [
      | then-sent_of-lt-SPAN w ↦ asked _ _ _ (lt-ltb _ span (rw c.sent_of.ensures at w.if-sent_of-lt-SPAN.true)) (w.value-is ∙ w.is_name.ensures)
      | else-sent_of-lt-SPAN w ↦ not-asked _ _ _ (le-ltb _ span (rw c.sent_of.ensures at w.if-sent_of-lt-SPAN.false)) (w.value-is ∙ le-ltb _ span w.if-sent_of-lt-SPAN.false)
    ] in
    third-not-asked _ _ _ both c.if-is_name.false _
