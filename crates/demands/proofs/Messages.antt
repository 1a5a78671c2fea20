-- A message s as it is judged, said on its tree.
--     judged-number, judged-field     the lowest of 4 to 14 that applies, and the field beside 7
--     quiet_is, body_is               of one that answers 0: whether it is quiet, and the header that it gives
--     key-is, names-are, records-are  its own key, the keys that it names, and the records that it leaves
--     header_is, text-is              its header and must-carry for a station, and its text and audio
use native.Mathlib.Omega.{arith}
use Prim.Native.Nat.{ℕ, zero, suc}
use Prim.Native.String.{String}
use mathlib.Core.Path.{◌≡◌, refl, sym, ap, ap₂, ◌∙◌}
use mathlib.Core.Bool.{Bool, true, false, ◌&&◌, not}
use mathlib.Core.List.{List, [], ◌∷◌, ◌++◌, map}
use borrow.Author.Tests.{eqb-true, eq-eqb}
use lib.Dec.{eqb}
use lib.ListN.{take, drop}
use Rattle.octets.specs.Bytes.{pick, every}
use Rattle.octets.specs.Digits.{value}
use Rattle.octets.proofs.Tests.{and_right}
use Rattle.values.specs.Value.{value_at}
use Rattle.gather.specs.WorkingRead.{leaf_in, alert_of}
use Rattle.message.specs.WorkingMessage.{judged, message_says}
use Rattle.message.specs.declared.Message.{Message}
use Rattle.judgement.specs.WorkingRules.{lacks_references, located, quiet_of}
use Rattle.judgement.specs.WorkingJudged.{without, body_with, body_in, alerted, judged_by, judged_of}
use Rattle.judgement.specs.declared.Judged.{Judged}
use Rattle.judgement.proofs.Answers.{alerted-holds, judged-holds, passed}
use Rattle.judgement.proofs.Bodies.{alerting, alert-body, message-kept}
use Rattle.outputs.specs.WorkingOutputs.{uri_in}
use Rattle.convert.specs.WorkingConvert.{text_in, header_by, text_by}
use Rattle.records.specs.Record.{notice, withdrawal}
use Rattle.offers.specs.WorkingRecords.{own_in, zero_filled_header, named_by, alert_by, records_of}
use Rattle.told.specs.Values.{is_none, value_of, is_six}
use Rattle.told.proofs.Leaves.{leaf-value}
use Rattle.demands.specs.Message.{prefix, alert, locations, is_quiet, header_body, whole_header, whole_text}
use Rattle.demands.specs.Board.{own_key, own_header, named_keys, message_records}
use Rattle.demands.specs.Numbers.{NumberRow, row, lowest_in, field_beside, message_rows, header_rows, taken_rows}
use Rattle.demands.proofs.Rows.{held, at-pick, lowest-append}
use Rattle.demands.proofs.Fields.{alert-real, read, Faultless}
use Rattle.demands.proofs.Alerts.{said, sent-said, naming-said, lacking-said, message-number, message-field, message-said, message-faultless, no_field}
use Rattle.demands.proofs.Infos.{told, all_pass, has_event, has_origin, has_places, has_end}
use Rattle.demands.proofs.Infos.{event-said, origin-said, known-said, places-said, lasting-said, ended-said, quiet-said}

-- ---- 10 to 14

-- the rows of 11 to 14, where the message is quiet or not
abbrev rows_where : Bool → List ℕ → List NumberRow
rows_where quiet s =
    row 11 (not quiet && not (has_event s))
    ∷ row 12 (not quiet && not (has_origin s))
    ∷ row 13 (not quiet && not (has_places s))
    ∷ row 14 (not quiet && not (has_end s))
    ∷ []

-- what is answered of a message that passes 4 to 9
abbrev header_number : List ℕ → Message → ℕ
header_number s m = pick (lacks_references s m) 10 (pick (quiet_of m) 0 (alerted s m).number)

module _ (s : List ℕ) (k : Faultless s) where
  loud-number : (alerted s (said s)).number ≡ lowest_in (rows_where false s)
  unfolding alerted judged lowest_in
  loud-number =
      let f : Judged → ℕ = λ (j : Judged). j.number in
      let rows = rows_where false s in
      rw (event-said s k, known-said s k, places-said s k, ended-said s k)
      (at-pick f (has_event s) _ _ ∙ held (has_event s) 11 _ (drop 1 rows)
      (at-pick f (has_origin s) _ _ ∙ held (has_origin s) 12 _ (drop 2 rows)
      (at-pick f (has_places s) _ _ ∙ held (has_places s) 13 _ (drop 3 rows)
      (at-pick f (not (has_end s)) _ _))))

  asked-number : header_number s (said s) ≡ lowest_in (header_rows s)
  unfolding lowest_in
  asked-number = rw (lacking-said s k, quiet-said s k, go (is_quiet s))
    where
      go : (b : Bool) → pick b 0 (alerted s (said s)).number ≡ lowest_in (rows_where b s)
      go true = refl
      go false = loud-number

-- ---- 4 to 14

module _ (s : List ℕ) where
  pub judged-number : (judged_of s).number ≡ lowest_in (taken_rows s)
  unfolding judged_by every
  judged-number =
      let f : Judged → ℕ = λ (j : Judged). j.number in
      at-pick f (eqb m.number 0) _ _
      ∙ ap (λ (n : ℕ). pick (eqb m.number 0) n m.number) (at-pick f (lacks_references s m) _ _ ∙ ap (pick (lacks_references s m) 10) (at-pick f (quiet_of m) _ _))
      ∙ go (eqb m.number 0) refl ∙ ap (λ (n : ℕ). pick (eqb n 0) (lowest_in (header_rows s)) n) (message-number s)
      ∙ sym (lowest-append (message_rows s) (header_rows s) refl)
    where
      m : Message
      m = message_says s

      go : (b : Bool) → eqb m.number 0 ≡ b → pick b (header_number s m) m.number ≡ pick b (lowest_in (header_rows s)) m.number
      go true e =
          let z = eqb-true m.number 0 e in
          ap (header_number s) (message-said s z) ∙ asked-number s (message-faultless s z)
      go false e = refl

  pub judged-field : (judged_of s).field ≡ field_beside (judged_of s).number s
  judged-field =
      let P : Judged → Type 0 = λ (j : Judged). j.field ≡ field_beside j.number s in
      judged-holds s m P (λ e. message-field s) (λ e. no_field s 10 (eqb-true m.number 0 e)) (λ e. no_field s 0 (eqb-true m.number 0 e))
      (λ e. let z = eqb-true m.number 0 e in alerted-holds s m P (λ n h. no_field s n z) (no_field s 0 z))
    where
      m : Message
      m = message_says s

-- ---- a message that answers 0

take-map : {A B : Type 0} (f : A → B) (n : ℕ) (xs : List A) → take n (map f xs) ≡ map f (take n xs)
take-map f zero xs = refl
take-map f (suc n) [] = refl
take-map f (suc n) (x ∷ xs) = ap (λ ys. f x ∷ ys) (take-map f n xs)

module _ (s : List ℕ) (zero : (judged_of s).number ≡ 0) where
  message-zero : (message_says s).number ≡ 0
  message-zero = (passed s (message_says s) zero).0

  is_said : message_says s ≡ said s
  is_said = message-said s message-zero

  sound : Faultless s
  sound = message-faultless s message-zero

  kept : (judged_of s).message ≡ said s
  kept = message-kept s (message_says s) ∙ is_said

  pub quiet_is : (judged_of s).quiet ≡ is_quiet s
  unfolding judged_by
  quiet_is = rw (eq-eqb (message_says s).number 0 message-zero, (passed s (message_says s) zero).1) (go (quiet_of (message_says s))) ∙ ap quiet_of is_said ∙ quiet-said s sound
    where
      go : (b : Bool) → (pick b (without (message_says s) 0 true) (alerted s (message_says s))).quiet ≡ b
      go true = refl
      go false = alerted-holds s (message_says s) (λ (j : Judged). j.quiet ≡ false) (λ n h. refl) refl

  pub body_is : is_quiet s ≡ false → (judged_of s).body ≡ header_body s
  unfolding body_with header_body judged
  body_is loud =
      let t = told s sound in
      let a = alerting s (message_says s) zero (quiet_is ∙ loud) in
      let places : located (read s).info.locations ≡ true = rw is_said at a.places in
      let six : every is_six (locations s) ≡ true = and_right (not (is_none (locations s))) _ (sym (places-said s sound) ∙ places) in
      alert-body s (message_says s) a ∙ ap (body_in s) is_said
      ∙ rw (
        origin-said s sound,
        t.events.value,
        t.locations.count,
        t.locations.list,
        all_pass is_six (locations s) six,
        take-map value 31 (locations s),
        lasting-said s sound,
        sent-said s sound,
      )

  -- ---- the records that it leaves

  leaf-said : (w : String) → value_at s (leaf_in s (prefix s) w (alert s)).at ≡ value_of s (prefix s) w (alert s)
  leaf-said w = leaf-value s (prefix s) w (alert s) (alert-real s)

  pub key-is : own_in s (judged_of s).message ≡ own_key s
  unfolding own_in judged alert_of
  key-is = rw (kept, sent-said s sound, leaf-said "sender", leaf-said "identifier")

  pub names-are : (alert_by s (judged_of s)).names ≡ named_keys s
  unfolding alert_by named_by judged alert_of
  names-are = rw (kept, naming-said s sound, leaf-said "references")

  notice-is : map (notice (own_in s (judged_of s).message)) (alert_by s (judged_of s)).carries ≡ pick (is_quiet s) [] (notice (own_key s) (own_header s) ∷ [])
  unfolding alert_by zero_filled_header
  notice-is = rw (key-is, quiet_is) (go (is_quiet s) refl)
    where
      go : (b : Bool) → is_quiet s ≡ b → map (notice (own_key s)) (pick b [] (zero_filled_header (judged_of s) ∷ [])) ≡ pick b [] (notice (own_key s) (own_header s) ∷ [])
      go true e = refl
      go false e = rw (body_is e)

  pub records-are : records_of s ≡ message_records s
  unfolding records_of alert_by
  records-are = rw (eq-eqb (judged_of s).number 0 zero) (ap₂ (λ (ns ws : List (List ℕ)). ns ++ map withdrawal ws) notice-is names-are)

  -- ---- what it gives in each call

  pub header_is : (station : List ℕ) → is_quiet s ≡ false → header_by s station (judged_of s) ≡ whole_header s station
  unfolding header_by whole_header judged
  header_is station loud = rw (body_is loud, kept, ((told s sound).parameters.each 2 (omega arith)).value)

  pub text-is : is_quiet s ≡ false → text_by s (judged_of s) ≡ whole_text s
  unfolding text_by whole_text text_in uri_in judged
  text-is loud =
      let t = told s sound in
      rw (body_is loud, kept, (t.parameters.each 1 (omega arith)).value, t.sender_name, t.description, t.instruction, t.audio.uri, t.audio.number)
