-- Demand 1 of both calls of a conversion, and of a header read and written: its number is the lowest of its own that applies, and a refusal gives and touches
-- nothing.
--     call-numbered                                   of either call
--     header-numbered, header-field, header_refused
--     text-numbered, text-field, text-refused
--     read-numbered, read-refused, write-numbered, write-refused
use Prim.Native.Nat.{ℕ}
use mathlib.Core.Path.{◌≡◌, refl, ap, ◌∙◌}
use mathlib.Core.Bool.{Bool}
use mathlib.Core.List.{List, []}
use borrow.Author.Tests.{ne_eqb}
use lib.Dec.{leb}
use lib.ListN.{length, drop}
use Rattle.octets.specs.Bytes.{every}
use Rattle.octets.proofs.Tests.{either_way}
use Rattle.parts.specs.Parts as parts
use Rattle.parts.specs.declared.Parts.{Parts}
use Rattle.header.specs.declared.Read.{Read}
use Rattle.header.specs.Header.{header_form, read_of, write_number, write_of, write_bytes}
use Rattle.judgement.specs.WorkingJudged.{judged_of}
use Rattle.judgement.specs.declared.Judged.{Judged}
use Rattle.outputs.specs.Outputs.{Outcome, no_text}
use Rattle.outputs.specs.WorkingOutputs.{roomy_text}
use Rattle.convert.specs.Convert.{no_header}
use Rattle.convert.specs.WorkingConvert.{header_by, text_by, judged_for, outcome_of, call_of, header_call, text_call}
use Rattle.convert.proofs.Answers.{call-holds, call-refused}
use Rattle.demands.specs.Calls.{library}
use Rattle.demands.specs.Numbers.{Numbered, lowest_in, field_beside, is_station, taken_rows, call_rows, heading_rows, texting_rows, read_rows, write_rows}
use Rattle.demands.proofs.Rows.{held, at-pick, numbered}
use Rattle.demands.proofs.Messages.{judged-number, judged-field}

-- ---- a call of a conversion, whose outputs are long enough or not. A is what it gives

module _ {A : Type 0} (none : A) (given : Judged → A) (long : Bool) (s station : List ℕ) where
  abbrev outcome : Outcome A
  outcome = call_of none given long s station

  call-number : outcome.number ≡ lowest_in (call_rows long s station)
  unfolding call_of judged_for outcome_of every parts.station_ok parts.is_station_byte
  call-number =
      at-pick (λ (o : Outcome A). o.number) long _ _ ∙ held long 2 _ (drop 1 (call_rows long s station))
      (at-pick (λ (j : Judged). j.number) (is_station station) _ _ ∙ held (is_station station) 3 _ (taken_rows s) (judged-number s))

  pub call-numbered : Numbered outcome.number (call_rows long s station)
  unfolding every
  call-numbered = numbered _ (call_rows long s station) refl call-number

  call-field : outcome.field ≡ field_beside outcome.number s
  call-field =
      call-holds none given long s station (λ (o : Outcome A). o.field ≡ field_beside o.number s) refl refl (judged-field s) at_zero (λ z r. at_zero z)
    where
      at_zero : (judged_of s).number ≡ 0 → (judged_of s).field ≡ field_beside 0 s
      at_zero z = judged-field s ∙ ap (λ (n : ℕ). field_beside n s) z

  given-none : (outcome.number ≡ 0 → ⊥) → outcome.given ≡ none
  given-none n = ap (λ (o : Outcome A). o.given) (call-refused none given long s station n)

module _ (s station : List ℕ) where
  pub header-numbered : (h : ℕ) → Numbered (library.heading s station h).number (heading_rows s station h)
  unfolding header_call
  header-numbered h = call-numbered no_header (header_by s station) (leb 252 h) s station

  pub header-field : (h : ℕ) → (library.heading s station h).field ≡ field_beside (library.heading s station h).number s
  unfolding header_call
  header-field h = call-field no_header (header_by s station) (leb 252 h) s station

  pub header_refused : (h : ℕ) → ((library.heading s station h).number ≡ 0 → ⊥) → (library.heading s station h).given ≡ no_header
  unfolding header_call
  header_refused h = given-none no_header (header_by s station) (leb 252 h) s station

  pub text-numbered : (t u : ℕ) → Numbered (library.texting s station t u).number (texting_rows s station t u)
  unfolding text_call roomy_text
  text-numbered t u = call-numbered no_text (text_by s) (roomy_text t u) s station

  pub text-field : (t u : ℕ) → (library.texting s station t u).field ≡ field_beside (library.texting s station t u).number s
  unfolding text_call
  text-field t u = call-field no_text (text_by s) (roomy_text t u) s station

  pub text-refused : (t u : ℕ) → ((library.texting s station t u).number ≡ 0 → ⊥) → (library.texting s station t u).given ≡ no_text
  unfolding text_call
  text-refused t u = given-none no_text (text_by s) (roomy_text t u) s station

-- ---- a header

pub read-numbered : (s : List ℕ) → Numbered (library.reading s).number (read_rows s)
unfolding every read_of lowest_in
read-numbered s = numbered _ (read_rows s) refl (at-pick (λ (r : Read). r.number) (header_form s) _ _ ∙ held (header_form s) 17 0 [] refl)

pub read-refused : (s : List ℕ) → ((library.reading s).number ≡ 0 → ⊥) → (library.reading s).parts ≡ record { body = parts.no_body; station = parts.no_station }
unfolding read_of
read-refused s =
    either_way (λ (r : Read). (r.number ≡ 0 → ⊥) → r.parts ≡ record { body = parts.no_body; station = parts.no_station }) (header_form s) _ _
    (λ _ n. absurd (n refl)) (λ _ n. refl)

module _ (d : List ℕ) (p : Parts) where
  pub write-numbered : Numbered (library.writing d p).answer.number (write_rows (length d) p)
  unfolding every write_of write_number lowest_in parts.station_ok parts.is_station_byte
  write-numbered =
      let rows = write_rows (length d) p in
      numbered _ rows refl
      (held (leb 252 (length d)) 2 _ (drop 1 rows)
      (held (is_station p.station) 3 _ (drop 2 rows)
      (held (parts.body_ok p.body) 17 0 [] refl)))

  pub write-refused : ((library.writing d p).answer.number ≡ 0 → ⊥) → ((library.writing d p).answer.len ≡ 0) × ((library.writing d p).bytes ≡ d)
  unfolding write_of write_bytes
  write-refused n = rw (ne_eqb (write_number (length d) p) 0 n) (refl, refl)
