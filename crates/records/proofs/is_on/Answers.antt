-- Day, hour and minute in turn.
use Rattle.std.proofs.Common.{eqb, inl, inr, [], ◌∷◌, sym, ap, ◌∙◌}
use borrow.Author.Tests.{eq-eqb, ne_eqb}
use Rattle.records.proofs.Judging.{asked, not-asked, third-not-asked}
use Rattle.octets.proofs.Everys.{last-decides}
use Rattle.clock.specs.declared.Stamp.{Stamp}
use Rattle.clock.specs.Stamp.{stamp_of}
use Rattle.records.proofs.is_on.Goals as goal
use Rattle.records.proofs.is_on.Goals.{then-body-on, else-body-on}

pub returns-then-body-on-2 : goal.returns-then-body-on-2
returns-then-body-on-2 c =
    let a = c.args in
    let is = c.stamp_of-on.ensures in
    let h = c.if-body-on-2.true in
    ap (λ (s : Stamp). eqb a.body.minute s.minute) is
    ∙ sym (last-decides (eqb a.body.day (stamp_of a.sent).day ∷ eqb a.body.hour (stamp_of a.sent).hour ∷ []) _
    (eq-eqb _ _ (h.0 ∙ ap (λ (s : Stamp). s.day) is), (eq-eqb _ _ (h.1 ∙ ap (λ (s : Stamp). s.hour) is), tt)))

pub returns-else-body-on-2 : goal.returns-else-body-on-2
returns-else-body-on-2 c =
    let a = c.args in
    let is = c.stamp_of-on.ensures in
    let day = ap (λ (s : Stamp). s.day) is in
    let hour = ap (λ (s : Stamp). s.hour) is in
    elim c.if-body-on.branch [
      | then-body-on w ↦ let on = asked _ _ _ (eq-eqb _ _ (w.if-body-on.true ∙ day)) (w.t-5-is ∙ ap (eqb a.body.hour) hour) in
          elim c.if-body-on-2.either [ inl h ↦ third-not-asked _ _ _ on (w.t-5-is ∙ ne_eqb _ _ h.1) _ | inr n ↦ absurd (n w.if-body-on.true) ]
      | else-body-on w ↦ let off = w.t-5-is ∙ ne_eqb _ _ w.if-body-on.false in
          third-not-asked _ _ _ (not-asked _ _ _ (ne_eqb _ _ (λ e. w.if-body-on.false (e ∙ sym day))) off) off _
    ]
