-- What the Canadian mode returns, whatever it is lent.
--     canadian-small     every part of it fits a few bits
--     canadian-refused   a refusal has its number and its field, and nothing else
--     canadian-gives     after 0, all that the message gives
use Prim.Native.Nat.{ℕ}
use mathlib.Core.Path.{◌≡◌, refl}
use mathlib.Core.List.{List}
use native.Mathlib.Omega.{arith}
use borrow.Author.Tests.{eqb-true, eqb-false}
use lib.Dec.{eqb}
use Rattle.octets.proofs.Tests.{either_way}
use Rattle.message.specs.WorkingMessage.{message_says, info_in}
use Rattle.leaves.proofs.Fits.{audio-number, audio-fits, number_small, field-small}
use Rattle.outputs.specs.Outputs.{TextOutcome, text_answer_of}
use Rattle.outputs.specs.WorkingOutputs.{roomy_text, text_refused}
use Rattle.outputs.proofs.Answers.{SmallText, alone-small}
use Rattle.outputs.proofs.Fits.{uri-fits}
use Rattle.canadian.specs.WorkingCanadian.{lacks_words, broadcast_in, description_in, canadian_given, words_given, canadian_by, canadian_of}
use Rattle.canadian.proofs.Texts.{text-bytes}

module _ (s : List ℕ) (t u : ℕ) where
  -- of each outcome: of the mode
  pub outcome-holds : (P : TextOutcome → Type 0) → P (text_refused 2 0) →
      (((message_says s).number ≡ 0 → ⊥) → P (text_refused (message_says s).number (message_says s).field)) →
      ((message_says s).number ≡ 0 → P (text_refused 18 (message_says s).field)) →
      ((message_says s).number ≡ 0 → P (record { number = 0; field = (message_says s).field; given = canadian_given s (message_says s) })) → P (canadian_of s t u)
  unfolding canadian_of canadian_by words_given
  outcome-holds P two refuse none give =
      let m = message_says s in
      either_way P (roomy_text t u) _ _
      (λ _. either_way P (eqb m.number 0) _ _
      (λ z. either_way P (lacks_words (broadcast_in s m) (description_in s m)) _ _ (λ _. none (eqb-true m.number 0 z)) (λ _. give (eqb-true m.number 0 z)))
      (λ z. refuse (eqb-false m.number 0 z)))
      (λ _. two)

  given-small : SmallText (text_answer_of (record { number = 0; field = (message_says s).field; given = canadian_given s (message_says s) }))
  unfolding text_answer_of canadian_given
  given-small = record {
    number = omega arith;
    field = field-small s;
    audio = audio-number s;
    uri = (uri-fits s (info_in (message_says s)).audio (audio-fits s)).short;
    text = text-bytes _ _ _;
  }

  pub canadian-small : SmallText (text_answer_of (canadian_of s t u))
  canadian-small =
      outcome-holds (λ (o : TextOutcome). SmallText (text_answer_of o)) (alone-small 2 0 (omega arith) (omega arith))
      (λ z. alone-small _ _ (omega (arith, number_small s)) (field-small s)) (λ z. alone-small 18 _ (omega arith) (field-small s)) (λ z. given-small)

  pub canadian-refused : ((canadian_of s t u).number ≡ 0 → ⊥) → canadian_of s t u ≡ text_refused (canadian_of s t u).number (canadian_of s t u).field
  canadian-refused =
      outcome-holds (λ (o : TextOutcome). (o.number ≡ 0 → ⊥) → o ≡ text_refused o.number o.field) (λ e. refl) (λ z e. refl) (λ z e. refl) (λ z e. absurd (e refl))

  -- after 0 the message passed 4 to 9, and gives what it has
  pub canadian-gives : (canadian_of s t u).number ≡ 0 → ((message_says s).number ≡ 0) × ((canadian_of s t u).given ≡ canadian_given s (message_says s))
  canadian-gives =
      outcome-holds (λ (o : TextOutcome). o.number ≡ 0 → ((message_says s).number ≡ 0) × (o.given ≡ canadian_given s (message_says s)))
      (λ e. absurd (omega (arith, e))) (λ z e. absurd (z e)) (λ z e. absurd (omega (arith, e))) (λ z e. (z, refl))
