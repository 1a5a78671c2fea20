-- What is answered for any message, refused or not.
--     number_small                    a number to 14
--     alerted-holds, judged-holds     what holds of each answer
--     passed                          one that answers 0 passed 4 to 10
--     field-kept                      the field of the message read
use Prim.Native.Nat.{ℕ, ◌≤◌}
use mathlib.Core.Path.{◌≡◌, refl}
use mathlib.Core.Bool.{Bool, true, false}
use mathlib.Core.List.{List}
use native.Mathlib.Omega.{arith}
use borrow.Author.Tests.{eqb-true, eqb-false}
use lib.Dec.{eqb}
use Rattle.octets.proofs.Tests.{either_way}
use Rattle.parts.specs.Originator.{is_known}
use Rattle.reads.specs.WorkingLeaves.{eas_org_leaf}
use Rattle.message.specs.WorkingMessage.{message_says, info_in}
use Rattle.message.specs.declared.Message.{Message}
use Rattle.leaves.proofs.Fits as fits
use Rattle.judgement.specs.WorkingRules.{lacks_references, event_is, origin_of, located, quiet_of}
use Rattle.judgement.specs.WorkingJudged.{without, lasting, body_in, alerted, judged_by, judged_of}
use Rattle.judgement.specs.declared.Judged.{Judged}

module _ (s : List ℕ) (m : Message) where
  -- of each refusal from 11 to 14 and of an alert: of a message that passed 4 to 10 and is not quiet
  pub alerted-holds : (P : Judged → Type 0) → ((n : ℕ) → n ≤ 14 → P (without m n false)) → P (record { number = 0; field = m.field; quiet = false; body = body_in s m; message = m }) → P (alerted s m)
  unfolding alerted
  alerted-holds P refused alert =
      either_way P (event_is s (info_in m).events.same) _ _
      (λ _. either_way P (is_known (origin_of s (eas_org_leaf (info_in m)))) _ _
      (λ _. either_way P (located (info_in m).locations) _ _
      (λ _. either_way P (eqb (lasting s m) 0) _ _ (λ _. refused 14 (omega arith)) (λ _. alert))
      (λ _. refused 13 (omega arith)))
      (λ _. refused 12 (omega arith)))
      (λ _. refused 11 (omega arith))

  -- of a message refused before, of one that lacks references, of a quiet one, and of those: of every message
  pub judged-holds : (P : Judged → Type 0) → (eqb m.number 0 ≡ false → P (without m m.number false)) → (eqb m.number 0 ≡ true → P (without m 10 false)) →
      (eqb m.number 0 ≡ true → P (without m 0 true)) → (eqb m.number 0 ≡ true → P (alerted s m)) → P (judged_by s m)
  unfolding judged_by
  judged-holds P refused lacking quiet alert =
      either_way P (eqb m.number 0) _ _
      (λ e. either_way P (lacks_references s m) _ _ (λ _. lacking e) (λ _. either_way P (quiet_of m) _ _ (λ _. quiet e) (λ _. alert e)))
      refused

  pub passed : (judged_by s m).number ≡ 0 → (m.number ≡ 0) × (lacks_references s m ≡ false)
  unfolding judged_by
  passed h = go (eqb m.number 0) refl (lacks_references s m) refl
    where
      go : (a : Bool) → eqb m.number 0 ≡ a → (b : Bool) → lacks_references s m ≡ b → (m.number ≡ 0) × (lacks_references s m ≡ false)
      go false a b l = let n : m.number ≡ 0 = rw a at h in absurd (eqb-false m.number 0 a n)
      go true a true l = let n : ◌≡◌ {A = ℕ} 10 0 = rw (a, l) at h in absurd (omega arith)
      go true a false l = (eqb-true m.number 0 a, l)

  pub field-kept : (judged_by s m).field ≡ m.field
  field-kept =
      judged-holds (λ (j : Judged). j.field ≡ m.field) (λ e. refl) (λ e. refl) (λ e. refl)
      (λ e. alerted-holds (λ (j : Judged). j.field ≡ m.field) (λ n h. refl) refl)

pub number_small : (s : List ℕ) → (judged_of s).number ≤ 14
number_small s =
    let m = message_says s in
    let most : m.number ≤ 14 = omega (arith, fits.number_small s) in
    judged-holds s m (λ (j : Judged). j.number ≤ 14) (λ e. most) (λ e. omega arith) (λ e. omega arith)
    (λ e. alerted-holds s m (λ (j : Judged). j.number ≤ 14) (λ n h. h) (omega arith))

pub field-small : (s : List ℕ) → (judged_of s).field ≤ 7
field-small s = rw (field-kept s (message_says s)) (fits.field-small s)
