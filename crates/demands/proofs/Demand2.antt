-- Demand 2: a message s, a station, and outputs of h, or t and u bytes.
--     demand-2     the header is the one of the parts that the message says, the text is UTF-8 of at most 1,800 characters, and headers read and write back
--     on-board     a header on a board is the conversion's without its station (of demand 3)
use Prim.Native.Nat.{ℕ, ◌≤◌}
use mathlib.Core.Path.{◌≡◌, refl, sym, ap, ap₂, ◌∙◌, subst}
use mathlib.Core.Bool.{Bool, true, false, not}
use mathlib.Core.List.{List, [], ◌∷◌, ◌++◌}
use native.Mathlib.Omega.{arith}
use borrow.Author.Tests.{eq-eqb, not-false}
use lib.ListN.{length, drop}
use lib.Dec.{leb}
use Rattle.octets.specs.Bytes.{pick, every}
use Rattle.parts.specs.Parts as parts
use Rattle.parts.specs.declared.Body.{Body}
use Rattle.parts.proofs.Has.{has}
use Rattle.header.specs.Body.{body_bytes}
use Rattle.header.specs.Header.{header_bytes, read_of}
use Rattle.header.specs.declared.Written.{Written}
use Rattle.header.proofs.WriteThenRead.{read-header-bytes, read-written-header}
use Rattle.header.proofs.ReadThenWrite.{write-read-header}
use Rattle.sentence.specs.Words.{sentence_of}
use Rattle.sentence.proofs.Lengths.{sentence-le}
use Rattle.sentence.proofs.Plains.{sentence-legal}
use Rattle.values.proofs.Legal.{value-legal}
use Rattle.wording.proofs.Texts.{text-le}
use Rattle.wording.proofs.Legals.{all-legal}
use Rattle.judgement.specs.WorkingJudged.{judged_of}
use Rattle.judgement.specs.declared.Judged.{Judged}
use Rattle.judgement.proofs.Bodies.{body_ok_lem}
use Rattle.records.specs.Record.{pad}
use Rattle.outputs.specs.Outputs.{Outcome, no_text, TextOutcome}
use Rattle.outputs.specs.WorkingOutputs.{roomy_text}
use Rattle.convert.specs.Convert.{HeaderGiven, no_header}
use Rattle.convert.specs.WorkingConvert.{text_in, header_by, text_by, judged_for, outcome_of, call_of, header_call, text_call}
use Rattle.convert.proofs.Answers.{call-holds}
use Rattle.demands.specs.Calls.{library}
use Rattle.demands.specs.Message.{is_quiet, header_body, header_parts, Spelt, whole_header, whole_text}
use Rattle.demands.specs.Board.{own_header}
use Rattle.demands.specs.Numbers.{none_applies, call_rows, heading_rows, texting_rows}
use Rattle.demands.specs.Demands.{Demand2}
use Rattle.demands.proofs.Rows.{each-off}
use Rattle.demands.proofs.Messages.{quiet_is, body_is, header_is, text-is}
use Rattle.demands.proofs.Conversions.{call-numbered}
use Rattle.demands.proofs.Spellings.{spelt, nothing-spelt}
use Rattle.demands.proofs.Canadian.{canadian-gives-all, canadian-short}

-- ---- a message that answers 0 and is not quiet

module _ (s : List ℕ) (zero : (judged_of s).number ≡ 0) (loud : is_quiet s ≡ false) where
  body-sound : parts.body_ok (header_body s) ≡ true
  body-sound = subst (λ (b : Body). parts.body_ok b ≡ true) (body_is s zero loud) (body_ok_lem s zero (quiet_is s zero ∙ loud))

-- ---- a call of a conversion by whose rows none of its numbers applies. A is what it gives

module _ {A : Type 0} (none : A) (given : Judged → A) (long : Bool) (s station : List ℕ) (passes : none_applies (call_rows long s station) ≡ true) where
  record Passed : Type 0 where
    station-ok : parts.station_ok station ≡ true
    judged-zero : (judged_of s).number ≡ 0
    outcome : call_of none given long s station ≡ outcome_of none given (judged_of s)

  passed : Passed
  unfolding call_of judged_for outcome_of every parts.station_ok parts.is_station_byte
  passed =
      let rows = call_rows long s station in
      let room : long ≡ true = not-false _ (each-off 0 rows passes) in
      let named : parts.station_ok station ≡ true = not-false _ (each-off 1 rows passes) in
      let o : call_of none given long s station ≡ outcome_of none given (judged_of s) = rw (room, named) in
      record {
        station-ok = named;
        judged-zero = sym (ap (λ (x : Outcome A). x.number) o) ∙ (call-numbered none given long s station).zero-exactly.1 passes;
        outcome = o;
      }

  given_is : (call_of none given long s station).given ≡ pick (not (is_quiet s)) (given (judged_of s)) none
  unfolding outcome_of
  given_is =
      let z = passed.judged-zero in
      ap (λ (o : Outcome A). o.given) passed.outcome ∙ rw (eq-eqb (judged_of s).number 0 z, quiet_is s z)

  quiet-gives : is_quiet s ≡ true → (call_of none given long s station).given ≡ none
  quiet-gives quiet = given_is ∙ rw quiet

  loud-gives : is_quiet s ≡ false → (call_of none given long s station).given ≡ given (judged_of s)
  loud-gives loud = given_is ∙ rw loud

-- ---- header and must-carry

module _ (s station : List ℕ) (h : ℕ) (passes : none_applies (heading_rows s station h) ≡ true) where
  header-passed : Passed no_header (header_by s station) (leb 252 h) s station passes
  header-passed = passed no_header (header_by s station) (leb 252 h) s station passes

  quiet-gives-no-header : is_quiet s ≡ true → (library.heading s station h).given ≡ no_header
  unfolding header_call
  quiet-gives-no-header = quiet-gives no_header (header_by s station) (leb 252 h) s station passes

  module _ (loud : is_quiet s ≡ false) where
    gives-header : (library.heading s station h).given ≡ whole_header s station
    unfolding header_call
    gives-header = loud-gives no_header (header_by s station) (leb 252 h) s station passes loud ∙ header_is s header-passed.judged-zero station loud

    header-reads-back : library.reading (library.heading s station h).given.header ≡ record { number = 0; parts = header_parts s station }
    unfolding whole_header
    header-reads-back =
        ap (λ (g : HeaderGiven). read_of g.header) gives-header
        ∙ read-header-bytes (header_parts s station) (body-sound s header-passed.judged-zero loud) header-passed.station-ok

    -- a header on a board is the conversion's without its station
    pub on-board : (front : List ℕ) × (own_header s ≡ pad 243 front) × ((library.heading s station h).given.header ≡ front ++ (station ++ (45 ∷ [])))
    unfolding whole_header header_bytes
    on-board = (body_bytes (header_body s), refl, ap (λ (g : HeaderGiven). g.header) gives-header)

-- ---- text and audio

module _ (s station : List ℕ) (t u : ℕ) where
  alert-spelt : parts.body_ok (judged_of s).body ≡ true → Spelt (text_by s (judged_of s)).text
  unfolding text_by text_in
  alert-spelt k =
      let body = (judged_of s).body in
      let h = has body k in
      spelt _ (all-legal (sentence_of body) _ _ _ _ (sentence-legal body k) (value-legal s _) (value-legal s _) (value-legal s _) (value-legal s _))
      (text-le (sentence_of body) _ _ _ _ (omega (arith, sentence-le body h.three h.few)))

  text-short : Spelt (library.texting s station t u).given.text
  unfolding text_call
  text-short =
      call-holds no_text (text_by s) (roomy_text t u) s station (λ (o : TextOutcome). Spelt o.given.text)
      nothing-spelt nothing-spelt nothing-spelt (λ z. nothing-spelt) (λ z r. alert-spelt r.body)

  module _ (passes : none_applies (texting_rows s station t u) ≡ true) where
    quiet-gives-no-text : is_quiet s ≡ true → (library.texting s station t u).given ≡ no_text
    unfolding text_call roomy_text
    quiet-gives-no-text = quiet-gives no_text (text_by s) (roomy_text t u) s station passes

    gives-text : is_quiet s ≡ false → (library.texting s station t u).given ≡ whole_text s
    unfolding text_call roomy_text
    gives-text loud =
        loud-gives no_text (text_by s) (roomy_text t u) s station passes loud ∙ text-is s (passed no_text (text_by s) (roomy_text t u) s station passes).judged-zero loud

-- ---- the demand

write-gives-back : (s d : List ℕ) → (library.reading s).number ≡ 0 → 252 ≤ length d →
    library.writing d (library.reading s).parts ≡ record { answer = record { number = 0; len = length s }; bytes = s ++ drop (length s) d }
write-gives-back s d zero room =
    let w = write-read-header s d zero room in
    ap₂ (λ (x : Written) (y : List ℕ). record { answer = x; bytes = y }) w.0 w.1

pub demand-2 : Demand2 library
demand-2 = record {
  gives-header = gives-header;
  gives-text = gives-text;
  quiet-gives-no-header = quiet-gives-no-header;
  quiet-gives-no-text = quiet-gives-no-text;
  text-short = text-short;
  canadian-gives-all = canadian-gives-all;
  canadian-short = canadian-short;
  header-reads-back = header-reads-back;
  read-gives-back = read-written-header;
  write-gives-back = write-gives-back;
}
