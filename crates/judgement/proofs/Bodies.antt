-- A message that answers 0 and is not quiet, and the body that it gives.
--     alerting         all that the numbers ask holds of it
--     alert-body       its body is the one of these parts
--     body_ok_lem      which is a header's body
use Prim.Native.Nat.{ℕ, ◌≤◌, ◌<◌}
use mathlib.Core.Path.{◌≡◌, refl, ◌∙◌}
use mathlib.Core.Bool.{Bool, true, false, not, true≢false}
use mathlib.Core.List.{List, [], ◌∷◌}
use native.Mathlib.Omega.{arith}
use native.Mathlib.Decide.{dec_le}
use borrow.Author.Tests.{eq-eqb, eqb-false, not-true}
use lib.Dec.{eqb}
use Rattle.octets.proofs.Tests.{and_right, each_of}
use Rattle.clock.specs.Time.{span}
use Rattle.clock.specs.Period.{period_of}
use Rattle.clock.proofs.Periods.{period-is}
use Rattle.clock.proofs.Stamps.{stamp-fits}
use Rattle.values.specs.Value.{value_at}
use Rattle.parts.specs.Originator.{is_known, known}
use Rattle.parts.specs.Parts.{event_ok, is_period, body_ok}
use Rattle.parts.specs.declared.Originator.{Originator}
use Rattle.parts.proofs.Has.{ok_of, event-long, event-capitals}
use Rattle.parts.proofs.Periods.{period-quarter, period-half}
use Rattle.reads.specs.WorkingLeaves.{eas_org_leaf}
use Rattle.reads.specs.declared.Locations.{Locations}
use Rattle.message.specs.WorkingMessage.{message_says, info_in}
use Rattle.message.specs.declared.Message.{Message}
use Rattle.leaves.proofs.Fits.{LocationsFit, locations-fit, sent-in}
use Rattle.judgement.specs.WorkingRules.{lacks_references, event_is, origin_of, located, quiet_of}
use Rattle.judgement.specs.WorkingJudged.{body_with, lasting, body_in, alerted, judged_by, judged_of}
use Rattle.judgement.specs.declared.Judged.{Judged}
use Rattle.judgement.proofs.Answers.{alerted-holds, judged-holds, passed}

-- ---- the tests of 4 to 14

-- what a message passes that answers 0 and is not quiet
pub record Alerting (s : List ℕ) (m : Message) : Type 0 where
  pub passing : eqb m.number 0 ≡ true
  pub naming : lacks_references s m ≡ false
  pub loud : quiet_of m ≡ false
  pub event : event_is s (info_in m).events.same ≡ true
  pub origin : is_known (origin_of s (eas_org_leaf (info_in m))) ≡ true
  pub places : located (info_in m).locations ≡ true
  pub ends : eqb (lasting s m) 0 ≡ false

module _ (s : List ℕ) (m : Message) where
  pub alerting : (judged_by s m).number ≡ 0 → (judged_by s m).quiet ≡ false → Alerting s m
  unfolding judged_by alerted
  alerting h q =
      go (quiet_of m) refl (event_is s (info_in m).events.same) refl
      (is_known (origin_of s (eas_org_leaf (info_in m)))) refl (located (info_in m).locations) refl (eqb (lasting s m) 0) refl
    where
      a : eqb m.number 0 ≡ true
      a = eq-eqb m.number 0 (passed s m h).0

      l : lacks_references s m ≡ false
      l = (passed s m h).1

      go : (b : Bool) → quiet_of m ≡ b → (c : Bool) → event_is s (info_in m).events.same ≡ c →
          (d : Bool) → is_known (origin_of s (eas_org_leaf (info_in m))) ≡ d → (e : Bool) → located (info_in m).locations ≡ e →
          (f : Bool) → eqb (lasting s m) 0 ≡ f → Alerting s m
      go true b c _ d _ e _ f _ = let n : true ≡ false = rw (a, l, b) at q in absurd (true≢false n)
      go false b false c d _ e _ f _ = let n : ◌≡◌ {A = ℕ} 11 0 = rw (a, l, b, c) at h in absurd (omega arith)
      go false b true c false d e _ f _ = let n : ◌≡◌ {A = ℕ} 12 0 = rw (a, l, b, c, d) at h in absurd (omega arith)
      go false b true c true d false e f _ = let n : ◌≡◌ {A = ℕ} 13 0 = rw (a, l, b, c, d, e) at h in absurd (omega arith)
      go false b true c true d true e true f = let n : ◌≡◌ {A = ℕ} 14 0 = rw (a, l, b, c, d, e, f) at h in absurd (omega arith)
      go false b true c true d true e false f = record { passing = a; naming = l; loud = b; event = c; origin = d; places = e; ends = f }

  pub alert-body : Alerting s m → (judged_by s m).body ≡ body_in s m
  unfolding judged_by alerted
  alert-body t = rw (t.passing, t.naming, t.loud, t.event, t.origin, t.places, t.ends)

-- ---- the body

period-ok : (n : ℕ) → 0 < n → is_period (period_of n) ≡ true
period-ok n h = by (dec_le (period_of n) 45)
  where
    by : Dec (period_of n ≤ 45) → is_period (period_of n) ≡ true
    by (yes l) = let p = period-is n in period-quarter (period_of n) (p.positive h) l ∙ eq-eqb _ 0 p.quarters
    by (no l) =
        let p = period-is n in
        let r = p.halves (omega arith) in
        period-half (period_of n) (omega arith) p.most ∙ eq-eqb _ 0 r

module _ (o : Originator) (v : List ℕ) (l : Locations) (n t : ℕ) where
  body-with : event_ok v ≡ true → LocationsFit l → 1 ≤ l.count → 0 < n → t < span → body_ok (body_with o v l n t) ≡ true
  unfolding body_with
  body-with e f c p q =
      let z = stamp-fits t q in
      ok_of (body_with o v l n t) (record {
        three = event-long v e;
        capitals = event-capitals v e;
        some = c;
        few = f.few;
        long = f.long;
        six = f.six;
        rest = f.zeros;
        period = period-ok n p;
        first = z.one;
        last = z.most;
        hour = z.hour;
        minute = z.minute;
      })

some_of : (l : Locations) → located l ≡ true → 1 ≤ l.count
unfolding located
some_of l h = let x = not-true (eqb l.count 0) (each_of (not l.bad ∷ not (eqb l.count 0) ∷ []) h).1.0 in let y = eqb-false l.count 0 x in omega arith

pub body_ok_lem : (s : List ℕ) → (judged_of s).number ≡ 0 → (judged_of s).quiet ≡ false → body_ok (judged_of s).body ≡ true
unfolding event_is
body_ok_lem s h q =
    let m = message_says s in
    let t = alerting s m h q in
    rw (alert-body s m t)
    (body-with (known (origin_of s (eas_org_leaf (info_in m)))) (value_at s (info_in m).events.same.at) (info_in m).locations (lasting s m) m.sent
    (and_right (eqb (info_in m).events.same.count 1) _ t.event) (locations-fit s) (some_of (info_in m).locations t.places) (positive (lasting s m) t.ends) (sent-in s))
  where
    positive : (n : ℕ) → eqb n 0 ≡ false → 0 < n
    positive n e = let x = eqb-false n 0 e in omega arith

-- whatever is answered, the message stands beside it
pub message-kept : (s : List ℕ) (m : Message) → (judged_by s m).message ≡ m
message-kept s m =
    judged-holds s m (λ (j : Judged). j.message ≡ m) (λ e. refl) (λ e. refl) (λ e. refl)
    (λ e. alerted-holds s m (λ (j : Judged). j.message ≡ m) (λ n h. refl) refl)
