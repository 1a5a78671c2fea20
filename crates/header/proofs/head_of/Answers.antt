-- One test after the other.
use mathlib.Core.Path.{sym, ap, ◌∙◌}
use borrow.Author.Tests.{eq-eqb, ne_eqb}
use Rattle.header.proofs.Reading.{head-refused, head-taken}
use Rattle.octets.specs.Text.{bytes}
use Rattle.parts.specs.Originator.{is_known}
use Rattle.header.proofs.head_of.Goals.{then-s-ne45-via-then-s-ne45, then-s-ne45-via-else-s-ne45+then-not-event_ok}
use Rattle.header.proofs.head_of.Goals as goal

pub returns-then-not-stands_at : goal.returns-then-not-stands_at
unfolding bytes
returns-then-not-stands_at c = sym (head-refused 0 _ (sym c.stands_at.ensures ∙ c.if-not-stands_at.true))

pub returns-in_err-originator : goal.returns-in_err-originator
returns-in_err-originator c = c.from_residual.ensures ∙ sym (head-refused 1 _ (ap is_known (sym c.originator_of.ensures ∙ c.in_err-originator.was)))

pub returns-then-s-ne45 : goal.returns-then-s-ne45
returns-then-s-ne45 c =
    elim c.then-s-ne45.branch [
      | then-s-ne45-via-then-s-ne45 w ↦ sym (head-refused 2 _ (ne_eqb _ _ w.if-s-ne45.true))
      | then-s-ne45-via-else-s-ne45+then-not-event_ok w ↦ sym (head-refused 3 _ (sym w.event_ok.ensures ∙ w.if-not-event_ok.true))
    ]

pub returns : goal.returns
unfolding bytes
returns c =
    let o = sym c.originator_of.ensures ∙ c.in_ok-originator.was in
    sym (head-taken _ _ (sym c.stands_at.ensures ∙ c.if-not-stands_at.false, (ap is_known o, (eq-eqb _ _ c.if-s-ne45.false, (sym c.event_ok.ensures ∙ c.if-not-event_ok.false, tt)))) o)
