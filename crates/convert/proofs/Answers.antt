-- What the calls return, whatever they are lent: a message s, a station, and outputs of h, t and u bytes.
--     call-holds                  what holds of each answer, of either call
--     call-refused                a refusal has its number and its field, and nothing else
--     header-small, text-small    every part of an answer fits a few bits
use Prim.Native.Nat.{ℕ, ◌≤◌}
use mathlib.Core.Path.{◌≡◌, refl}
use mathlib.Core.Bool.{Bool, true, false}
use mathlib.Core.List.{List}
use native.Mathlib.Omega.{arith}
use borrow.Author.Tests.{eqb-true, eqb-false}
use lib.Dec.{eqb, leb}
use lib.ListN.{length}
use Rattle.octets.proofs.Tests.{either_way}
use Rattle.parts.specs.Parts.{station_ok}
use Rattle.parts.proofs.Has.{has}
use Rattle.header.proofs.Lengths.{length-header}
use Rattle.sentence.specs.Words.{sentence_of}
use Rattle.sentence.proofs.Lengths.{sentence-le}
use Rattle.wording.proofs.Texts.{text-bytes}
use Rattle.message.specs.WorkingMessage.{message_says}
use Rattle.leaves.proofs.Fits.{audio-number}
use Rattle.judgement.specs.WorkingJudged.{refused_before, judged_of}
use Rattle.judgement.specs.declared.Judged.{Judged}
use Rattle.judgement.proofs.Bodies.{message-kept}
use Rattle.judgement.proofs.Answers.{number_small, field-small}
use Rattle.outputs.specs.Outputs.{Outcome, alone, no_text, TextOutcome, text_answer_of}
use Rattle.outputs.specs.WorkingOutputs.{roomy_text}
use Rattle.outputs.proofs.Answers.{SmallText, alone-small}
use Rattle.convert.specs.Convert.{no_header, HeaderOutcome, header_answer_of}
use Rattle.convert.specs.WorkingConvert.{text_in, header_by, text_by, judged_for, outcome_of, call_of, header_call, text_call}
use Rattle.convert.specs.declared.Headed.{Headed}
use Rattle.convert.proofs.Outcomes.{refused, quiet, alert, Ready, ready}

-- ---- of each outcome: of the call

module _ {A : Type 0} (none : A) (given : Judged → A) (roomy : Bool) (s station : List ℕ) where
  -- where 2 or 3 is answered, where the message is refused or quiet, and where it is an alert
  pub call-holds : (P : Outcome A → Type 0) → P (alone none 2 0) → P (alone none 3 0) → P (alone none (judged_of s).number (judged_of s).field) →
      ((judged_of s).number ≡ 0 → P (alone none 0 (judged_of s).field)) →
      ((judged_of s).number ≡ 0 → Ready s station (judged_of s) → P (record { number = 0; field = (judged_of s).field; given = given (judged_of s) })) →
      P (call_of none given roomy s station)
  unfolding call_of judged_for
  call-holds P two three refuse calm give = either_way P roomy _ _ (λ _. named (station_ok station) refl) (λ _. two)
    where
      j : Judged
      j = judged_of s

      judged : station_ok station ≡ true → (a : Bool) → eqb j.number 0 ≡ a → (b : Bool) → j.quiet ≡ b → P (outcome_of none given j)
      judged n false a b q = rw (refused none given j (eqb-false j.number 0 a)) refuse
      judged n true a true q = let z = eqb-true j.number 0 a in rw (quiet none given j z q, z) (calm z)
      judged n true a false q = let z = eqb-true j.number 0 a in rw (alert none given j z q) (give z (ready s station j (rw n) z q))

      named : (b : Bool) → station_ok station ≡ b → P (outcome_of none given (judged_for s station))
      named false n = rw n (rw (refused none given (refused_before (length s) 3) (λ e. omega (arith, e))) three)
      named true n = rw n (judged n (eqb j.number 0) refl j.quiet refl)

  pub call-refused : let o = call_of none given roomy s station in (o.number ≡ 0 → ⊥) → o ≡ alone none o.number o.field
  call-refused =
      call-holds (λ (o : Outcome A). (o.number ≡ 0 → ⊥) → o ≡ alone none o.number o.field)
      (λ e. refl) (λ e. refl) (λ e. refl) (λ z e. refl) (λ z r e. absurd (e refl))

-- ---- header and must-carry

pub record SmallHeader (c : Headed) : Type 0 where
  pub number : c.number ≤ 14
  pub field : c.field ≤ 7
  pub header : c.header ≤ 252

no-header-small : (n f : ℕ) → n ≤ 14 → f ≤ 7 → SmallHeader (header_answer_of (alone no_header n f))
unfolding header_answer_of
no-header-small n f a b = record { number = a; field = b; header = omega arith }

module _ (s station : List ℕ) where
  alert-header-small : Ready s station (judged_of s) → SmallHeader (header_answer_of (record { number = 0; field = (judged_of s).field; given = header_by s station (judged_of s) }))
  unfolding header_answer_of header_by
  alert-header-small r =
      let b = (judged_of s).body in
      record {
        number = omega arith;
        field = field-small s;
        header = omega (arith, length-header (record { body = b; station = station }) r.body r.named, (has b r.body).few);
      }

  pub header-small : (h : ℕ) → SmallHeader (header_answer_of (header_call s station h))
  unfolding header_call
  header-small h =
      call-holds no_header (header_by s station) (leb 252 h) s station (λ (o : HeaderOutcome). SmallHeader (header_answer_of o))
      (no-header-small 2 0 (omega arith) (omega arith)) (no-header-small 3 0 (omega arith) (omega arith))
      (no-header-small _ _ (number_small s) (field-small s)) (λ z. no-header-small 0 _ (omega arith) (field-small s)) (λ z. alert-header-small)

  -- ---- text and audio

  alert-text-small : Ready s station (judged_of s) → SmallText (text_answer_of (record { number = 0; field = (judged_of s).field; given = text_by s (judged_of s) }))
  unfolding text_answer_of text_by text_in
  alert-text-small r =
      let b = has (judged_of s).body r.body in
      record {
        number = omega arith;
        field = field-small s;
        audio = rw (message-kept s (message_says s)) (audio-number s);
        uri = r.fits.short;
        text = text-bytes (sentence_of (judged_of s).body) _ _ _ _ (omega (arith, sentence-le (judged_of s).body b.three b.few));
      }

  pub text-small : (t u : ℕ) → SmallText (text_answer_of (text_call s station t u))
  unfolding text_call
  text-small t u =
      call-holds no_text (text_by s) (roomy_text t u) s station (λ (o : TextOutcome). SmallText (text_answer_of o))
      (alone-small 2 0 (omega arith) (omega arith)) (alone-small 3 0 (omega arith) (omega arith))
      (alone-small _ _ (omega (arith, number_small s)) (field-small s)) (λ z. alone-small 0 _ (omega arith) (field-small s)) (λ z. alert-text-small)
