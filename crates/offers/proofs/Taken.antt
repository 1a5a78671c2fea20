-- A message that answers 0: its values keep their rules, and so do its records.
--     sound                       its sender, identifier and references
--     shaped                      what it leaves has the lengths of a record's fields
--     records-ok, records-few     its records keep theirs, and are 17 at most
use Prim.Native.Nat.{ℕ, zero, suc, ◌≤◌, ◌<◌}
use mathlib.Core.Path.{◌≡◌, refl, sym, ap, ◌∙◌, subst}
use mathlib.Core.Logic.{⊎_elim}
use mathlib.Core.Bool.{Bool, true, false, ◌&&◌}
use mathlib.Core.List.{List, [], ◌∷◌, map}
use native.Mathlib.Omega.{arith}
use borrow.Author.Tests.{eqb-true, not-false}
use lib.Dec.{eqb}
use lib.ListN.{length, get_or, length-append}
use Rattle.octets.specs.Bytes.{pick, every, part}
use Rattle.octets.proofs.Tests.{and_right, each_of, every-none, every-step, every_first, every_rest, every_append, between-high}
use Rattle.clock.specs.Time.{span, time_of, instant_in}
use Rattle.clock.specs.Stamp.{stamped}
use Rattle.clock.specs.Written.{jjjhhmm}
use Rattle.clock.proofs.Times.{instant-low}
use Rattle.parts.specs.declared.Body.{Body}
use Rattle.parts.proofs.Has.{has}
use Rattle.header.specs.Body.{body_bytes, times_part, body_form}
use Rattle.header.specs.declared.BodyRead.{BodyRead}
use Rattle.header.proofs.Reading.{body-zero, body-long}
use Rattle.header.proofs.WriteThenRead.{body_back, read-written-body}
use Rattle.fields.specs.Fields.{identity_ok}
use Rattle.fields.specs.References.{sender_of, identifier_of, sent_of, words}
use Rattle.fields.specs.WorkingFields.{group_ok, references_ok}
use Rattle.fields.specs.declared.MsgType.{MsgType}
use Rattle.fields.proofs.Identities.{identity-short}
use Rattle.fields.proofs.Groups.{group_tests}
use Rattle.faults.specs.WorkingField.{one_on, lowest}
use Rattle.reads.specs.declared.Alert.{Alert}
use Rattle.gather.specs.WorkingRead.{alert_of}
use Rattle.reads.specs.WorkingLeaves.{only_of, identifier_leaf, sender_leaf, sent_leaf, references_leaf}
use Rattle.message.specs.WorkingJudged.{identified, timed, status_of, msg_type_of, scope_of, is_ack_or_error, faults_with, field_of, number_with, message_number}
use Rattle.message.specs.WorkingMessage.{judged, message_says}
use Rattle.message.specs.declared.Message.{Message}
use Rattle.leaves.proofs.Fits.{message-holds, sent-in}
use Rattle.judgement.specs.WorkingRules.{asks_references, referenced, lacks_references}
use Rattle.judgement.specs.WorkingJudged.{body_with, judged_of}
use Rattle.judgement.specs.declared.Judged.{Judged}
use Rattle.judgement.proofs.Answers.{passed}
use Rattle.judgement.proofs.Bodies.{alerting, alert-body, body_ok_lem, message-kept}
use Rattle.records.specs.Record.{record_ok, notice, withdrawal}
use Rattle.records.proofs.ZeroFill.{pad-long}
use Rattle.records.proofs.Stamps.{stamp-read}
use Rattle.records.proofs.Records.{key-of-long, notice-ok, withdrawal-ok}
use Rattle.ledger.specs.Sorted.{In}
use Rattle.ledger.specs.WorkingBoard.{records, Shaped}
use Rattle.offers.specs.WorkingRecords.{own_identifier, own_references, own_sender, own_in, zero_filled_header, named_by, alert_by, records_of}

-- ---- its values

-- whatever holds of what is judged with 0 holds of a message that answers 0
module _ (s : List ℕ) (P : Message → Type 0) (holding : (a : Alert) → message_number s a ≡ 0 → P (judged s a)) where
  answering : (message_says s).number ≡ 0 → P (message_says s)
  unfolding judged
  answering = message-holds s (λ (m : Message). m.number ≡ 0 → P m) (λ n k l z. absurd (omega arith)) (λ p t. holding (alert_of s p t))

-- no field is at fault
no-faults : (bs : List Bool) (i : ℕ) → lowest bs ≡ 0 → get_or bs i false ≡ false
no-faults [] i h = refl
no-faults (true ∷ bs) i h = absurd (omega arith)
no-faults (false ∷ bs) zero h = refl
no-faults (false ∷ bs) (suc i) h = no-faults bs i (go (lowest bs) h)
  where
    go : (n : ℕ) → one_on n ≡ 0 → n ≡ 0
    go zero e = refl
    go (suc n) e = absurd (omega arith)

number-zero : (field status scope : ℕ) (t : MsgType) → number_with field status scope t ≡ 0 → field ≡ 0
unfolding number_with
number-zero field status scope t = go (eqb field 0) refl
  where
    go : (a : Bool) → eqb field 0 ≡ a → pick {A = ℕ} a (pick (eqb status 1 && eqb scope 1) (pick (is_ack_or_error t) 9 0) 8) 7 ≡ 0 → field ≡ 0
    go false a h = absurd (omega arith)
    go true a h = eqb-true field 0 a

pub record Sound (s : List ℕ) (m : Message) : Type 0 where
  pub identifier : identity_ok (own_identifier s m) ≡ true
  pub sender : identity_ok (own_sender s m) ≡ true
  pub references : asks_references m.msg_type ≡ true → references_ok (own_references s m) ≡ true

abbrev Identified : List ℕ → Message → Type 0
Identified s m = (identity_ok (own_identifier s m) ≡ true) × (identity_ok (own_sender s m) ≡ true)

judged-identified : (s : List ℕ) (a : Alert) → message_number s a ≡ 0 → Identified s (judged s a)
unfolding judged identified
judged-identified s a h =
    let z = number-zero (field_of s a) (status_of s a) (scope_of s a) (msg_type_of s a) h in
    let bs = faults_with s a (timed s (sent_leaf a)) (status_of s a) (msg_type_of s a) (scope_of s a) in
    (and_right (only_of (identifier_leaf a)) _ (not-false _ (no-faults bs 0 z)), and_right (only_of (sender_leaf a)) _ (not-false _ (no-faults bs 1 z)))

named-sound : (s : List ℕ) (m : Message) → lacks_references s m ≡ false → asks_references m.msg_type ≡ true → references_ok (own_references s m) ≡ true
unfolding lacks_references referenced
named-sound s m h e = let l = references_leaf m.alert in and_right (only_of l) _ (not-false _ (rw e at h))

-- ---- a message that is judged and answers 0

module _ (s : List ℕ) (zero : (judged_of s).number ≡ 0) where
  pub message-is : (judged_of s).message ≡ message_says s
  message-is = message-kept s (message_says s)

  pub sound : Sound s (judged_of s).message
  sound =
      let p = passed s (message_says s) zero in
      let i = answering s (Identified s) (judged-identified s) p.0 in
      rw message-is (record { identifier = i.0; sender = i.1; references = named-sound s (message_says s) p.1 })

  pub sent-low : (judged_of s).message.sent < span
  sent-low = rw message-is (sent-in s)

  pub own-long : length (own_in s (judged_of s).message) ≡ 132
  unfolding own_in
  own-long = key-of-long _ _ _ (identity-short _ sound.sender) (identity-short _ sound.identifier)

  module _ (loud : (judged_of s).quiet ≡ false) where
    form : body_form (body_bytes (judged_of s).body) ≡ true
    form = (body-zero (body_bytes (judged_of s).body) (ap (λ (r : BodyRead). r.number) (read-written-body (judged_of s).body (body_ok_lem s zero loud)))).0

    stamp : part (times_part (body_bytes (judged_of s).body)) 6 7 ≡ stamped (judged_of s).message.sent
    unfolding body_with
    stamp =
        let e = alert-body s (message_says s) (alerting s (message_says s) zero loud) in
        stamp-read (body_bytes (judged_of s).body) form
        ∙ ap (λ (x : Body). jjjhhmm x.day x.hour x.minute) (body_back (judged_of s).body (body_ok_lem s zero loud) ∙ e)
        ∙ ap (λ (m : Message). stamped m.sent) (sym message-is)

    notice-good : record_ok (notice (own_in s (judged_of s).message) (zero_filled_header (judged_of s))) ≡ true
    unfolding own_in zero_filled_header
    notice-good = notice-ok _ _ _ sent-low sound.sender sound.identifier (body_bytes (judged_of s).body) form stamp

    pub header-long : length (zero_filled_header (judged_of s)) ≡ 243
    unfolding zero_filled_header
    header-long = pad-long 243 (body_bytes (judged_of s).body) (body-long _ form).1

-- ---- its records

pub named-good : (w : List ℕ) → group_ok w ≡ true → record_ok (withdrawal (named_by w)) ≡ true
unfolding group_ok named_by
named-good w h = let t = each_of (group_tests w) h in withdrawal-ok (instant_in (time_of (sent_of w))) (sender_of w) (identifier_of w) (instant-low (sent_of w)) t.0 t.1.0

withdrawals-good : (ws : List (List ℕ)) → every group_ok ws ≡ true → every record_ok (map withdrawal (map named_by ws)) ≡ true
withdrawals-good [] h = every-none record_ok
withdrawals-good (w ∷ ws) h = every-step record_ok _ _ (named-good w (every_first group_ok w ws h)) ∙ withdrawals-good ws (every_rest group_ok w ws h)

pub map-long : {A B : Type 0} (f : A → B) (l : List A) → length (map f l) ≡ length l
map-long f [] = refl
map-long f (x ∷ l) = ap suc (map-long f l)

pub references-are : (v : List ℕ) → references_ok v ≡ true → (length (words v) ≤ 16) × (every group_ok (words v) ≡ true)
unfolding references_ok
references-are v h = let t = each_of _ h in (between-high 1 16 (length (words v)) t.0, t.1.0)

module _ (s : List ℕ) (zero : (judged_of s).number ≡ 0) where
  notices-good : (q : Bool) → (judged_of s).quiet ≡ q → every record_ok (map (notice (own_in s (judged_of s).message)) (pick q [] (zero_filled_header (judged_of s) ∷ []))) ≡ true
  notices-good true e = every-none record_ok
  notices-good false e = every-step record_ok _ [] (notice-good s zero e) ∙ every-none record_ok

  names-good : (q : Bool) → asks_references (judged_of s).message.msg_type ≡ q → every record_ok (map withdrawal (pick q (map named_by (words (own_references s (judged_of s).message))) [])) ≡ true
  names-good true e = withdrawals-good (words (own_references s (judged_of s).message)) (references-are _ ((sound s zero).references e)).1
  names-good false e = every-none record_ok

  alert-good : every record_ok (records (alert_by s (judged_of s))) ≡ true
  unfolding alert_by
  alert-good = every_append record_ok _ _ (notices-good (judged_of s).quiet refl) (names-good (asks_references (judged_of s).message.msg_type) refl)

  carries-few : length (alert_by s (judged_of s)).carries ≤ 1
  unfolding alert_by
  carries-few = go (judged_of s).quiet
    where
      go : (q : Bool) → length (pick q [] (zero_filled_header (judged_of s) ∷ [])) ≤ 1
      go true = omega arith
      go false = omega arith

  names-few : length (alert_by s (judged_of s)).names ≤ 16
  unfolding alert_by
  names-few = go (asks_references (judged_of s).message.msg_type) refl
    where
      ws : List (List ℕ)
      ws = words (own_references s (judged_of s).message)

      go : (q : Bool) → asks_references (judged_of s).message.msg_type ≡ q → length (pick q (map named_by ws) []) ≤ 16
      go true e = let l = map-long named_by ws in let k = (references-are _ ((sound s zero).references e)).0 in omega arith
      go false e = omega arith

  alert-few : length (records (alert_by s (judged_of s))) ≤ 17
  alert-few =
      let a = alert_by s (judged_of s) in
      omega (arith, length-append (map (notice a.own) a.carries) (map withdrawal a.names), map-long (notice a.own) a.carries, map-long withdrawal a.names, carries-few, names-few)

  pub shaped : Shaped (alert_by s (judged_of s))
  unfolding alert_by
  shaped = record { own-long = own-long s zero; carried-long = go (judged_of s).quiet refl }
    where
      go : (q : Bool) → (judged_of s).quiet ≡ q → (h : List ℕ) → In h (pick q [] (zero_filled_header (judged_of s) ∷ [])) → length h ≡ 243
      go true e h i = absurd i
      go false e h i = ⊎_elim (λ p. ap length p ∙ header-long s zero e) absurd i

pub records-ok : (s : List ℕ) → every record_ok (records_of s) ≡ true
unfolding records_of
records-ok s = go (eqb (judged_of s).number 0) refl
  where
    go : (b : Bool) → eqb (judged_of s).number 0 ≡ b → every record_ok (pick b (records (alert_by s (judged_of s))) []) ≡ true
    go true e = alert-good s (eqb-true (judged_of s).number 0 e)
    go false e = every-none record_ok

pub records-few : (s : List ℕ) → length (records_of s) ≤ 17
unfolding records_of
records-few s = go (eqb (judged_of s).number 0) refl
  where
    go : (b : Bool) → eqb (judged_of s).number 0 ≡ b → length (pick b (records (alert_by s (judged_of s))) []) ≤ 17
    go true e = alert-few s (eqb-true (judged_of s).number 0 e)
    go false e = omega arith

-- ---- the same of a judgement

pub record Ready (s : List ℕ) (j : Judged) : Type 0 where
  pub sender : identity_ok (own_sender s j.message) ≡ true
  pub identifier : identity_ok (own_identifier s j.message) ≡ true
  pub references : asks_references j.message.msg_type ≡ true → references_ok (own_references s j.message) ≡ true
  pub places : j.quiet ≡ false → j.body.count ≤ 31
  pub header : j.quiet ≡ false → length (body_bytes j.body) ≤ 243
  pub notice : j.quiet ≡ false → record_ok (notice (own_in s j.message) (zero_filled_header j)) ≡ true
  pub one : length (alert_by s j).carries ≤ 1
  pub few : length (records (alert_by s j)) ≤ 17

pub ready : (s : List ℕ) (j : Judged) → j ≡ judged_of s → j.number ≡ 0 → Ready s j
ready s j e z = subst (Ready s) (sym e) (of-judged (sym (ap (λ (x : Judged). x.number) e) ∙ z))
  where
    of-judged : (judged_of s).number ≡ 0 → Ready s (judged_of s)
    of-judged n =
        let v = sound s n in
        record {
          sender = v.sender;
          identifier = v.identifier;
          references = v.references;
          places = λ q. (has (judged_of s).body (body_ok_lem s n q)).few;
          header = λ q. (body-long _ (form s n q)).1;
          notice = λ q. notice-good s n q;
          one = carries-few s n;
          few = alert-few s n;
        }
