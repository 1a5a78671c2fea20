-- One test after the other; the last decides.
use mathlib.Core.Bool.{true≢false}
use mathlib.Core.List.{[], ◌∷◌}
use mathlib.Core.Path.{sym, ◌∙◌}
use Rattle.octets.proofs.Everys.{last-decides}
use Rattle.octets.proofs.Tests.{one-fails}
use Rattle.parts.specs.Parts.{body_tests, body_ok}
use Rattle.parts.proofs.body_ok.Goals.{then-event_ok, else-event_ok}
use Rattle.parts.proofs.body_ok.Goals as goal

pub returns-else-locations_ok : goal.returns-else-locations_ok
unfolding body_ok
returns-else-locations_ok c =
    let tests = body_tests c.args.b in
    let no = c.if-locations_ok.false in
    elim c.if-event_ok.branch [
      | then-event_ok w ↦ no ∙ sym (one-fails 1 tests (sym w.locations_ok.ensures ∙ sym w.value-is ∙ no))
      | else-event_ok w ↦ no ∙ sym (one-fails 0 tests (sym c.event_ok.ensures ∙ w.if-event_ok.false))
    ]

pub returns-then-locations_ok : goal.returns-then-locations_ok
unfolding body_ok
returns-then-locations_ok c =
    let yes = c.if-locations_ok.true in
    elim c.if-event_ok.branch [
      | then-event_ok w ↦ c.times_ok.ensures ∙ sym (last-decides (_ ∷ _ ∷ []) _ (sym c.event_ok.ensures ∙ w.if-event_ok.true, (sym w.locations_ok.ensures ∙ sym w.value-is ∙ yes, tt)))
      | else-event_ok w ↦ absurd (true≢false (sym yes ∙ w.value-is ∙ w.if-event_ok.false))
    ]
