-- Demands 1 and 2 of the Canadian mode: a message s, and outputs of t and u bytes.
--     canadian-numbered, canadian-field, canadian-refused    its number is the lowest of its own that applies, and a refusal gives nothing
--     canadian-gives-all, canadian-short                     the text and audio that the message says, in UTF-8 of at most 1,800 characters
use Prim.Native.Nat.{ℕ}
use mathlib.Core.Path.{◌≡◌, refl, sym, ap, ◌∙◌}
use mathlib.Core.Bool.{Bool, true, false, ◌&&◌, not}
use mathlib.Core.List.{List, [], ◌∷◌, ◌++◌, map}
use native.Mathlib.Omega.{arith}
use borrow.Author.Tests.{eqb-true, not-true}
use lib.Dec.{eqb}
use lib.ListN.{drop}
use Rattle.octets.specs.Bytes.{pick, between, every, same, is_capital}
use Rattle.octets.specs.Text.{bytes}
use Rattle.octets.proofs.Tests.{and_right}
use Rattle.reads.specs.WorkingParameters.{broadcast_text}
use Rattle.values.specs.Value.{small}
use Rattle.told.specs.Values.{is_none, first_value, is, Pair, values_where}
use Rattle.told.proofs.Infos.{values_under}
use Rattle.message.specs.WorkingMessage.{judged, message_says}
use Rattle.message.specs.declared.Message.{Message}
use Rattle.values.proofs.Legal.{value-legal}
use Rattle.wording.specs.Text.{empty}
use Rattle.outputs.specs.Outputs.{no_text, TextOutcome}
use Rattle.outputs.specs.WorkingOutputs.{roomy_text, uri_in}
use Rattle.canadian.specs.WorkingCanadian.{lacks_words, broadcast_in, description_in, canadian_given, words_given, canadian_by, canadian_of}
use Rattle.canadian.proofs.Texts.{text-short}
use Rattle.canadian.proofs.Answers.{outcome-holds, canadian-gives}
use Rattle.canadian.proofs.Answers as canadian
use Rattle.demands.specs.Calls.{library}
use Rattle.demands.specs.Message.{is_broadcast, broadcast_values, description, Spelt, whole_in_canada}
use Rattle.demands.specs.Numbers.{row, Numbered, lowest_in, none_applies, field_beside, message_rows, canadian_rows}
use Rattle.demands.proofs.Rows.{held, at-pick, lowest-append, numbered}
use Rattle.demands.proofs.Fields.{Faultless}
use Rattle.demands.proofs.Alerts.{said, message-number, message-field, message-said, message-faultless, no_field}
use Rattle.demands.proofs.Infos.{told}
use Rattle.demands.proofs.Spellings.{spelt, nothing-spelt, canadian-legal}

-- ---- 18

-- what the row of the broadcast text reads, in the demands' words
broadcasts-read : (xs : List Pair) → values_under broadcast_text xs ≡ values_where is_broadcast xs
unfolding bytes small is_capital between every
broadcasts-read xs = refl

-- a broadcast text that is read is not empty
first-none : (xs : List Pair) → empty (first_value (values_where is_broadcast xs)) ≡ is_none (values_where is_broadcast xs)
unfolding same bytes
first-none [] = refl
first-none (x ∷ xs) = go (is_broadcast x) refl (first-none xs)
  where
    vs : List (List ℕ)
    vs = values_where is_broadcast xs

    go : (b : Bool) → is_broadcast x ≡ b → empty (first_value vs) ≡ is_none vs → empty (first_value (pick b (x.value ∷ vs) vs)) ≡ is_none (pick b (x.value ∷ vs) vs)
    go true e h = not-true (same x.value []) (and_right (is "layer:aea:2.0:broadcasttext" (map small x.name)) (not (is "" x.value)) e)
    go false e h = h

-- there is neither a broadcast text nor a description
abbrev has_no_text : List ℕ → Bool
has_no_text s = is_none (broadcast_values s) && is "" (description s)

module _ (s : List ℕ) (k : Faultless s) where
  wordless-said : lacks_words (broadcast_in s (said s)) (description_in s (said s)) ≡ has_no_text s
  unfolding judged bytes
  wordless-said = let t = told s k in rw ((t.parameters.each 3 (omega arith)).value, broadcasts-read _, t.description, first-none _)

-- ---- demand 1

module _ (s : List ℕ) (t u : ℕ) where
  by_number : (canadian_by s (message_says s)).number ≡ lowest_in (message_rows s ++ (row 18 (has_no_text s) ∷ []))
  unfolding canadian_by words_given every lowest_in
  by_number =
      let f : TextOutcome → ℕ = λ (o : TextOutcome). o.number in
      at-pick f (eqb m.number 0) _ _
      ∙ ap (λ (n : ℕ). pick (eqb m.number 0) n m.number) (at-pick f (lacks_words (broadcast_in s m) (description_in s m)) _ _)
      ∙ go (eqb m.number 0) refl ∙ ap (λ (n : ℕ). pick (eqb n 0) (pick (has_no_text s) 18 0) n) (message-number s)
      ∙ sym (lowest-append (message_rows s) (row 18 (has_no_text s) ∷ []) refl)
    where
      m : Message
      m = message_says s

      go : (b : Bool) → eqb m.number 0 ≡ b → pick b (pick (lacks_words (broadcast_in s m) (description_in s m)) 18 0) m.number ≡ pick b (pick (has_no_text s) 18 0) m.number
      go true e =
          let z = eqb-true m.number 0 e in
          ap (λ (b : Bool). pick b 18 0) (ap (λ (x : Message). lacks_words (broadcast_in s x) (description_in s x)) (message-said s z) ∙ wordless-said s (message-faultless s z))
      go false e = refl

  number_is : (canadian_of s t u).number ≡ lowest_in (canadian_rows s t u)
  unfolding canadian_of roomy_text
  number_is = at-pick (λ (o : TextOutcome). o.number) (roomy_text t u) _ _ ∙ held (roomy_text t u) 2 _ (drop 1 (canadian_rows s t u)) by_number

  pub canadian-numbered : Numbered (library.canadian s t u).number (canadian_rows s t u)
  unfolding every
  canadian-numbered = numbered _ (canadian_rows s t u) refl number_is

  pub canadian-field : (library.canadian s t u).field ≡ field_beside (library.canadian s t u).number s
  canadian-field = outcome-holds s t u (λ (o : TextOutcome). o.field ≡ field_beside o.number s) refl (λ z. message-field s) (no_field s 18) (no_field s 0)

  pub canadian-refused : ((library.canadian s t u).number ≡ 0 → ⊥) → (library.canadian s t u).given ≡ no_text
  canadian-refused n = ap (λ (o : TextOutcome). o.given) (canadian.canadian-refused s t u n)

  -- ---- demand 2

  pub canadian-gives-all : none_applies (canadian_rows s t u) ≡ true → (library.canadian s t u).given ≡ whole_in_canada s
  unfolding canadian_given whole_in_canada uri_in judged
  canadian-gives-all none =
      let g = canadian-gives s t u (canadian-numbered.zero-exactly.1 none) in
      let k = told s (message-faultless s g.0) in
      g.1 ∙ ap (canadian_given s) (message-said s g.0)
      ∙ rw ((k.parameters.each 3 (omega arith)).value, broadcasts-read _, k.description, k.instruction, k.audio.uri, k.audio.number)

  pub canadian-short : Spelt (library.canadian s t u).given.text
  unfolding canadian_given
  canadian-short =
      outcome-holds s t u (λ (o : TextOutcome). Spelt o.given.text) nothing-spelt (λ z. nothing-spelt) (λ z. nothing-spelt)
      (λ z. spelt _ (canadian-legal _ _ _ (value-legal s _) (value-legal s _) (value-legal s _)) (text-short _ _ _))
