-- What is said in the alert of a message s, on its tree: numbers 4 to 9, and the field beside 7.
--     message-number       the lowest of 4 to 9 that applies
--     message-field        the lowest field at fault beside 7, and 0 beside any other number
--     message-said         a message that passes 4 to 9 is what is said in its alert
--     message-faultless    and then no field is at fault
--     no_field             nor answered
use Prim.Native.Nat.{ℕ}
use mathlib.Core.Path.{◌≡◌, refl, sym, ap, ◌∙◌}
use mathlib.Core.Bool.{Bool, true, false, ◌&&◌, not, or-false}
use mathlib.Core.List.{List, [], ◌∷◌}
use native.Mathlib.Omega.{arith}
use borrow.Author.Tests.{eqb-true, not-false}
use lib.Dec.{eqb}
use lib.ListN.{length, drop}
use Rattle.octets.specs.Bytes.{pick, every, between, same}
use Rattle.octets.specs.Text.{bytes}
use Rattle.octets.proofs.Tests.{either_way}
use Rattle.fields.specs.WorkingFields.{statuses, scopes, msg_type_in}
use Rattle.markup.specs.Tree.{One, one, none}
use Rattle.markup.specs.Document.{doc_at}
use Rattle.gather.specs.WorkingRead.{alert_of}
use Rattle.message.specs.WorkingJudged.{status_of, msg_type_of, scope_of, is_ack_or_error, field_of, number_with}
use Rattle.message.specs.WorkingMessage.{refused_as, judged, judged_root, of_root, message_says}
use Rattle.message.specs.declared.Message.{Message}
use Rattle.judgement.specs.WorkingRules.{asks_references, lacks_references, is_cancel}
use Rattle.told.specs.Values.{is, is_one, once}
use Rattle.demands.specs.Message.{prefix_in, content_in, prefix, alert, status, msg_type, scope, references, sent_seconds}
use Rattle.demands.specs.Numbers.{lowest_in, none_applies, is_read, root_is, are_groups, field_rows, field_beside, message_rows}
use Rattle.demands.proofs.Rows.{held, held-when, at-pick, pick_same, none-lowest, none-test, each-off}
use Rattle.demands.proofs.MsgTypes.{ack-or-error-is, asks-references-is, cancel-is}
use Rattle.demands.proofs.Fields.{timed-is, referenced-is, typed-once, place-test, alert-real, read, field_is, Faultless, faultless}

-- ---- what is said where no field is at fault

abbrev pub said : List ℕ → Message
said s = judged s (read s)

module _ (s : List ℕ) (k : Faultless s) where
  pub sent-said : (said s).sent ≡ sent_seconds s
  unfolding alert_of judged
  sent-said = rw (timed-is s (prefix s) "sent" (alert s) (alert-real s), k.sent-once)

  status-said : eqb (status_of s (read s)) 1 ≡ is "Actual" (status s)
  unfolding alert_of same bytes
  status-said =
      place-test s (prefix s) "status" (alert s) (alert-real s) (λ (n : ℕ). eqb n 1) refl statuses refl k.status-once
      ∙ or-false (is "Actual" (status s))

  scope-said : eqb (scope_of s (read s)) 1 ≡ is "Public" (scope s)
  unfolding alert_of same bytes
  scope-said =
      place-test s (prefix s) "scope" (alert s) (alert-real s) (λ (n : ℕ). eqb n 1) refl scopes refl k.scope-once
      ∙ or-false (is "Public" (scope s))

  type-said : msg_type_of s (read s) ≡ msg_type_in (msg_type s)
  unfolding alert_of
  type-said = typed-once s (prefix s) "msgType" (alert s) (alert-real s) k.type-once

  other-said : is_ack_or_error (msg_type_of s (read s)) ≡ is_one ("Ack" ∷ "Error" ∷ []) (msg_type s)
  other-said = ap is_ack_or_error type-said ∙ ack-or-error-is (msg_type s)

  pub naming-said : asks_references (msg_type_of s (read s)) ≡ is_one ("Update" ∷ "Cancel" ∷ []) (msg_type s)
  naming-said = ap asks_references type-said ∙ asks-references-is (msg_type s)

  pub cancel-said : is_cancel (msg_type_of s (read s)) ≡ is "Cancel" (msg_type s)
  cancel-said = ap is_cancel type-said ∙ cancel-is (msg_type s)

  pub lacking-said : lacks_references s (said s) ≡ (is_one ("Update" ∷ "Cancel" ∷ []) (msg_type s) && not (once s (prefix s) "references" (alert s) && are_groups (references s)))
  unfolding lacks_references alert_of judged
  lacking-said = rw (naming-said, referenced-is s (prefix s) "references" (alert s) (alert-real s))

  -- 8 and 9
  passing-number : number_with 0 (status_of s (read s)) (scope_of s (read s)) (msg_type_of s (read s)) ≡ lowest_in (drop 4 (message_rows s))
  unfolding number_with lowest_in
  passing-number =
      rw (status-said, scope-said) (held (is "Actual" (status s) && is "Public" (scope s)) 8 _ (drop 5 (message_rows s)) (rw other-said))

-- ---- 7 to 9

module _ (s : List ℕ) where
  said-number : (said s).number ≡ lowest_in (drop 3 (message_rows s))
  unfolding judged number_with every
  said-number =
      rw (field_is s, none-test (field_rows s) refl)
      (held-when (none_applies (field_rows s)) 7 _ (drop 4 (message_rows s)) (λ h. passing-number s (faultless s h)))

  said-field : (said s).field ≡ field_beside (said s).number s
  unfolding judged number_with
  said-field = beside (field_of s (read s)) _ (lowest_in (field_rows s)) (field_is s)
    where
      beside : (f x l : ℕ) → f ≡ l → f ≡ pick (eqb (pick (eqb f 0) x 7) 7) l 0
      beside f x l e = go (eqb f 0) refl
        where
          go : (b : Bool) → eqb f 0 ≡ b → f ≡ pick (eqb (pick b x 7) 7) l 0
          go true q = rw (sym e, eqb-true f 0 q, pick_same {A = ℕ} (eqb x 7) 0)
          go false q = e

-- ---- 4 to 9

-- of the root o: refused with 5 or 6, or what is said in the alert
abbrev rooted : List ℕ → One → Message
rooted s o =
    pick (is_read o)
    (pick (root_is s o) (judged s (alert_of s (prefix_in s o) (content_in o))) (refused_as (length s) 6))
    (refused_as (length s) 5)

module _ (s : List ℕ) where
  message-is : message_says s ≡ pick (between 1 32768 (length s)) (rooted s (doc_at s)) (refused_as (length s) 4)
  unfolding message_says of_root judged_root
  message-is = ap (λ (x : Message). pick (between 1 32768 (length s)) x (refused_as (length s) 4)) (root_is_lem (doc_at s))
    where
      root_is_lem : (o : One) → of_root s o ≡ rooted s o
      root_is_lem (one g kids e) = refl
      root_is_lem none = refl

  -- what holds of each refusal and of what is said in an alert
  message-holds : (P : Message → Type 0) → P (refused_as (length s) 4) → P (refused_as (length s) 5) → P (refused_as (length s) 6) → P (said s) → P (message_says s)
  message-holds P four five six alert =
      rw message-is
      (either_way P (between 1 32768 (length s)) _ _
      (λ _. either_way P (is_read (doc_at s)) _ _ (λ _. either_way P (root_is s (doc_at s)) _ _ (λ _. alert) (λ _. six)) (λ _. five))
      (λ _. four))

  pub message-number : (message_says s).number ≡ lowest_in (message_rows s)
  message-number =
      let f : Message → ℕ = λ (m : Message). m.number in
      let rows = message_rows s in
      ap f message-is
      ∙ at-pick f (between 1 32768 (length s)) _ _ ∙ held (between 1 32768 (length s)) 4 _ (drop 1 rows)
      (at-pick f (is_read (doc_at s)) _ _ ∙ held (is_read (doc_at s)) 5 _ (drop 2 rows)
      (at-pick f (root_is s (doc_at s)) _ _ ∙ held (root_is s (doc_at s)) 6 _ (drop 3 rows) (said-number s)))

  pub message-field : (message_says s).field ≡ field_beside (message_says s).number s
  message-field = message-holds (λ (m : Message). m.field ≡ field_beside m.number s) refl refl refl (said-field s)

  pub message-said : (message_says s).number ≡ 0 → message_says s ≡ said s
  message-said =
      message-holds (λ (m : Message). m.number ≡ 0 → m ≡ said s)
      (λ e. absurd (omega arith)) (λ e. absurd (omega arith)) (λ e. absurd (omega arith)) (λ e. refl)

  pub message-faultless : (message_says s).number ≡ 0 → Faultless s
  unfolding every
  message-faultless e =
      let none = (none-lowest (message_rows s) refl).0 (sym message-number ∙ e) in
      faultless s (not-false (none_applies (field_rows s)) (each-off 3 (message_rows s) none))

  -- so that the field is 0, whatever number is answered
  pub no_field : (n : ℕ) → (message_says s).number ≡ 0 → (message_says s).field ≡ field_beside n s
  no_field n z = message-field ∙ rw (z, (message-faultless z).none-at-fault, pick_same {A = ℕ} (eqb n 7) 0)
