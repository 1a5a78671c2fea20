-- JJJHHMM of a header, by the day, hour and minute that are read from it.
--     stamp-read        it is written as these three
--     stamp-is          it is that of sent where these are, and there only
use Prim.Native.Nat.{ℕ, ◌+◌, ◌*◌, ◌≤◌, ◌<◌}
use mathlib.Core.Bool.{Bool, true, false}
use mathlib.Core.List.{List, [], ◌∷◌}
use mathlib.Core.Path.{◌≡◌, refl, sym, ap, ◌∙◌}
use native.Mathlib.Omega.{arith}
use borrow.Author.Tests.{eqb-true, eq-eqb}
use lib.Dec.{eqb}
use lib.ListN.{length}
use Rattle.octets.specs.Bytes.{every, holds, part, same}
use Rattle.octets.specs.Digits.{value, digits}
use Rattle.octets.proofs.Tests.{each_of, every_of}
use Rattle.octets.proofs.Parts.{length_part}
use Rattle.octets.proofs.Sames.{same-is, same_refl}
use Rattle.octets.proofs.Numbers.{value-digits}
use Rattle.clock.specs.Written.{tttt, jjjhhmm}
use Rattle.clock.specs.Time.{span}
use Rattle.clock.specs.Stamp.{stamp_of, stamped}
use Rattle.clock.proofs.Stamps.{stamp-fits}
use Rattle.parts.specs.declared.Body.{Body}
use Rattle.parts.proofs.Has.{has}
use Rattle.header.specs.Body.{times_bytes, period_in, day_in, hour_in, minute_in, location_count, times_part, body_form_tests, body_form, body_of}
use Rattle.header.proofs.Reading.{length-is}
use Rattle.header.proofs.Times.{times-forth}
use Rattle.header.proofs.ReadThenWrite.{body_ok_lem}

written : (period day hour minute : ℕ) → part (times_bytes period day hour minute) 6 7 ≡ jjjhhmm day hour minute
unfolding times_bytes tttt jjjhhmm digits
written period day hour minute = refl

pub stamp-read : (v : List ℕ) → body_form v ≡ true → part (times_part v) 6 7 ≡ jjjhhmm (body_of v).day (body_of v).hour (body_of v).minute
unfolding body_form body_of
stamp-read v h =
    let w = each_of (body_form_tests v) h in
    let t = times_part v in
    let l = length_part v (12 + 7 * location_count v) 14 (omega (arith, length-is (length v) w.0)) in
    sym (ap (λ (x : List ℕ). part x 6 7) (times-forth t l w.1.1.1.0 w.1.1.1.1.0)) ∙ written (period_in t) (day_in t) (hour_in t) (minute_in t)

-- day, hour and minute are those of sent
abbrev pub on : Body → ℕ → List Bool
on b sent = eqb b.day (stamp_of sent).day ∷ eqb b.hour (stamp_of sent).hour ∷ eqb b.minute (stamp_of sent).minute ∷ []

-- what JJJHHMM says
module _ (day hour minute : ℕ) (d : day ≤ 366) (h : hour ≤ 23) (m : minute ≤ 59) where
  day-said : value (part (jjjhhmm day hour minute) 0 3) ≡ day
  unfolding jjjhhmm digits
  day-said = value-digits 3 day (omega arith)

  hour-said : value (part (jjjhhmm day hour minute) 3 2) ≡ hour
  unfolding jjjhhmm digits
  hour-said = value-digits 2 hour (omega arith)

  minute-said : value (part (jjjhhmm day hour minute) 5 2) ≡ minute
  unfolding jjjhhmm digits
  minute-said = value-digits 2 minute (omega arith)

module _ (v : List ℕ) (sent : ℕ) (ok : body_form v ≡ true) (inside : sent < span) where
  -- it is that of sent where all three are
  stamp-same : (body_of v).day ≡ (stamp_of sent).day → (body_of v).hour ≡ (stamp_of sent).hour → (body_of v).minute ≡ (stamp_of sent).minute → same (part (times_part v) 6 7) (stamped sent) ≡ true
  stamp-same d h m = ap (λ (x : List ℕ). same x (stamped sent)) (stamp-read v ok ∙ (λ i. jjjhhmm (d i) (h i) (m i))) ∙ same_refl (stamped sent)

  -- and there only
  pub stamp-told : same (part (times_part v) 6 7) (stamped sent) ≡ true → ((body_of v).day ≡ (stamp_of sent).day) × ((body_of v).hour ≡ (stamp_of sent).hour) × ((body_of v).minute ≡ (stamp_of sent).minute)
  stamp-told e =
      let b = has (body_of v) (body_ok_lem v ok) in
      let s = stamp-fits sent inside in
      let q = sym (stamp-read v ok) ∙ same-is (part (times_part v) 6 7) (stamped sent) e in (
        sym (day-said _ _ _ b.last b.hour b.minute) ∙ ap (λ (x : List ℕ). value (part x 0 3)) q ∙ day-said _ _ _ s.most s.hour s.minute,
        sym (hour-said _ _ _ b.last b.hour b.minute) ∙ ap (λ (x : List ℕ). value (part x 3 2)) q ∙ hour-said _ _ _ s.most s.hour s.minute,
        sym (minute-said _ _ _ b.last b.hour b.minute) ∙ ap (λ (x : List ℕ). value (part x 5 2)) q ∙ minute-said _ _ _ s.most s.hour s.minute,
      )

  pub stamp-is : same (part (times_part v) 6 7) (stamped sent) ≡ every holds (on (body_of v) sent)
  stamp-is =
      alike (same (part (times_part v) 6 7) (stamped sent)) (every holds (on (body_of v) sent))
      (λ e. let t = stamp-told e in every_of (on (body_of v) sent) (eq-eqb _ _ t.0, (eq-eqb _ _ t.1, (eq-eqb _ _ t.2, tt))))
      (λ e. let t = each_of (on (body_of v) sent) e in stamp-same (eqb-true _ _ t.0) (eqb-true _ _ t.1.0) (eqb-true _ _ t.1.1.0))
    where
      alike : (a b : Bool) → (a ≡ true → b ≡ true) → (b ≡ true → a ≡ true) → a ≡ b
      alike true b f g = sym (f refl)
      alike false true f g = g refl
      alike false false f g = refl
