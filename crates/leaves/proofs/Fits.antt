-- What is answered for any message fits what is built on it.
--     locations-fit                at most 31 locations of six digits, and zeros behind them
--     audio-number, audio-fits     a number to 3, and where it is not 0 a uri of 1 to 1,024 bytes
--     sent-in                      an instant of 2000 to 2099, and 0 after a refusal
--     number_small, field-small    a number to 9 and a field to 7
use Prim.Native.Nat.{ℕ, suc, zero, ◌+◌, ◌≤◌, ◌<◌}
use mathlib.Core.Path.{◌≡◌, refl, ◌∙◌}
use mathlib.Core.Bool.{Bool, true, false, ◌&&◌, not}
use mathlib.Core.List.{List, [], ◌∷◌, foldl}
use native.Mathlib.Numerals.{add-one}
use native.Mathlib.Omega.{arith}
use lib.ListN.{length, take, drop, set, length-set}
use lib.Seq.{take-suc-set, drop-set-lt}
use lib.Dec.{eqb, leb}
use borrow.Author.Tests.{leb-false, lt-ltb, eqb-true}
use Rattle.octets.specs.Bytes.{pick, every, between}
use Rattle.octets.specs.Text.{bytes}
use Rattle.octets.specs.Digits.{value, num_of}
use Rattle.std.specs.Prelude.{Option, Some, None}
use Rattle.octets.proofs.Tests.{and_right, every-none, every-step, every_rest, every_append, either_way}
use Rattle.octets.proofs.Numbers.{num-value, value-below}
use Rattle.clock.specs.Time.{span, instant_in}
use Rattle.clock.proofs.Times.{instant-low}
use Rattle.parts.specs.Parts.{is_location, is_zero}
use Rattle.faults.specs.WorkingField.{one_on, lowest}
use Rattle.markup.specs.Tree.{Forest, One, one, none}
use Rattle.markup.specs.Document.{doc_at}
use Rattle.values.specs.Value.{value_at}
use Rattle.values.specs.WorkingSteps.{six_digits}
use Rattle.reads.specs.WorkingLeaves.{sound_of, only_of, pair_ok, no_info, sent_leaf}
use Rattle.reads.specs.WorkingSteps.{says, with_location, location_of, location_step, audio_of, uri_ok, is_audio, audio_step}
use Rattle.reads.specs.declared.Leaf.{Leaf}
use Rattle.reads.specs.declared.Locations.{Locations}
use Rattle.reads.specs.declared.Audio.{Audio}
use Rattle.reads.specs.declared.Info.{Info}
use Rattle.reads.specs.declared.Alert.{Alert}
use Rattle.gather.specs.Read.{Element, named}
use Rattle.gather.specs.WorkingRead.{leaf_in, with_geocode, with_area, with_resource, info_of, from_english, selected, alert_of}
use Rattle.fields.specs.declared.MsgType.{MsgType}
use Rattle.message.specs.Root.{prefix_of, root_ok}
use Rattle.message.specs.WorkingJudged.{timed, status_of, msg_type_of, scope_of, is_ack_or_error, faults_with, field_of, number_with}
use Rattle.message.specs.WorkingMessage.{refused_as, judged, judged_root, of_root, message_says}
use Rattle.message.specs.declared.Message.{Message}

-- ---- locations and audio that fit

pub record LocationsFit (l : Locations) : Type 0 where
  pub few : l.count ≤ 31
  pub long : length l.list ≡ 31
  pub six : every is_location (take l.count l.list) ≡ true
  pub zeros : every is_zero (drop l.count l.list) ≡ true

record AudioFits (s : List ℕ) (a : Audio) : Type 0 where
  pub number : a.number ≤ 3
  pub uri : eqb a.number 0 ≡ false → uri_ok (value_at s a.uri) ≡ true

-- ---- a fold

fold-holds : {A B : Type 0} (P : A → Type 0) (f : A → B → A) → ((x : A) (e : B) → P x → P (f x e)) → (es : List B) (x : A) → P x → P (foldl f x es)
fold-holds P f k [] x h = h
fold-holds P f k (e ∷ es) x h = fold-holds P f k es (f x e) (k x e h)

-- ---- what one element adds

six-below : (t : List ℕ) (v : ℕ) → six_digits t ≡ Some v → v < 1000000
unfolding six_digits
six-below t v h = go (eqb (length t) 6) refl h
  where
    go : (b : Bool) → eqb (length t) 6 ≡ b → pick b (num_of t) None ≡ Some v → v < 1000000
    go true e q =
        let n = num-value t v q in
        let l : value t < 1000000 = value-below 6 t (eqb-true (length t) 6 e) n.0 in
        omega (arith, l, n.1)
    go false e q = let z : ◌≡◌ {A = ℕ} 0 1 = cc in absurd (omega arith)

drop_more : (n : ℕ) (l : List ℕ) → every is_zero (drop n l) ≡ true → every is_zero (drop (suc n) l) ≡ true
drop_more zero [] h = h
drop_more zero (x ∷ l) h = every_rest is_zero x l h
drop_more (suc n) [] h = h
drop_more (suc n) (x ∷ l) h = drop_more n l h

placed-fit : (e : Locations) (v : ℕ) → v < 1000000 → LocationsFit e → LocationsFit (with_location e v)
unfolding with_location is_location
placed-fit e v h f = either_way LocationsFit (leb 31 e.count) _ _ (λ q. f) more
  where
    more : leb 31 e.count ≡ false → LocationsFit (record { count = e.count + 1; list = set e.list e.count v; bad = e.bad; fault = e.fault })
    more q =
        let l : e.count < 31 = leb-false 31 e.count q in
        let n = e.count in
        let k : n < length e.list = omega (arith, f.long) in
        record {
          few = omega arith;
          long = length-set e.list n v ∙ f.long;
          six = rw (add-one n, take-suc-set e.list n v k) (every_append is_location (take n e.list) (v ∷ []) f.six (every-step is_location v [] (lt-ltb v 1000000 h) ∙ every-none is_location));
          zeros = rw (add-one n, drop-set-lt (suc n) e.list n v (omega arith)) (drop_more n e.list f.zeros);
        }

pub location-fits : (s p : List ℕ) (x : Locations) (e : Element) → LocationsFit x → LocationsFit (with_geocode s p x e)
unfolding location_step
location-fits s p x e h =
    either_way LocationsFit (pair_ok name value) _ _
    (λ q. either_way LocationsFit (says s name.at (bytes "SAME")) _ _ (λ r. go (six_digits (value_at s value.at)) refl) (λ r. h))
    (λ q. record { few = h.few; long = h.long; six = h.six; zeros = h.zeros })
  where
    name : Leaf
    name = leaf_in s p "valueName" e.holds

    value : Leaf
    value = leaf_in s p "value" e.holds

    go : (n : Option ℕ) → six_digits (value_at s value.at) ≡ n → LocationsFit (location_of x n)
    go (Some v) q = placed-fit x v (six-below (value_at s value.at) v q) h
    go None q = record { few = h.few; long = h.long; six = h.six; zeros = h.zeros }

audio-most : (s : List ℕ) (n : ℕ) → audio_of s n ≤ 3
unfolding audio_of
audio-most s n =
    either_way (λ (k : ℕ). k ≤ 3) (says s n (bytes "audio/x-ipaws-audio-mp3")) _ _ (λ q. omega arith)
    (λ q. either_way (λ (k : ℕ). k ≤ 3) (says s n (bytes "audio/x-ipaws-audio-wav")) _ _ (λ q. omega arith)
    (λ q. either_way (λ (k : ℕ). k ≤ 3) (says s n (bytes "audio/x-ipaws-streaming-audio-mp3")) _ _ (λ q. omega arith) (λ q. omega arith)))

resource-fits : (s p : List ℕ) (x : Audio) (e : Element) → AudioFits s x → AudioFits s (with_resource s p x e)
unfolding audio_step
resource-fits s p x e h =
    either_way (AudioFits s) (sound_of mime && sound_of uri) _ _
    (λ q. either_way (AudioFits s) (eqb x.number 0 && is_audio s mime uri) _ _ (λ r. first (and_right (eqb x.number 0) (is_audio s mime uri) r)) (λ r. h))
    (λ q. record { number = h.number; uri = h.uri })
  where
    mime : Leaf
    mime = leaf_in s p "mimeType" e.holds

    uri : Leaf
    uri = leaf_in s p "uri" e.holds

    first : is_audio s mime uri ≡ true → AudioFits s (record { number = audio_of s mime.at; uri = uri.at; fault = x.fault })
    first q = record { number = audio-most s mime.at; uri = λ r. and_right (not (eqb (audio_of s mime.at) 0)) (uri_ok (value_at s uri.at)) q }

-- ---- what holds of an info and of a message

module _ (s : List ℕ) where
  -- of nothing read and of what is read in each info: of the selected one
  info-holds : (P : Info → Type 0) → P (no_info (length s)) → ((p : List ℕ) (t : Forest) → P (info_of s p t)) → (p : List ℕ) (xs es : List Element) → P (selected s p xs es)
  unfolding selected
  info-holds P nothing each p [] [] = nothing
  info-holds P nothing each p [] (e ∷ es) = each p e.holds
  info-holds P nothing each p (x ∷ xs) es = each p x.holds

  -- of each refusal and of what is judged: of every message
  pub message-holds : (P : Message → Type 0) → ((n : ℕ) → 1 ≤ n → n ≤ 6 → P (refused_as (length s) n)) → ((p : List ℕ) (t : Forest) → P (judged s (alert_of s p t))) → P (message_says s)
  unfolding message_says of_root judged_root
  message-holds P refuse judge = either_way P (between 1 32768 (length s)) _ _ (λ q. go (doc_at s)) (λ q. refuse 4 (omega arith) (omega arith))
    where
      go : (o : One) → P (of_root s o)
      go none = refuse 5 (omega arith) (omega arith)
      go (one g kids e) = either_way P (root_ok s (g.from + 1) g.name) _ _ (λ q. judge (prefix_of s (g.from + 1) g.name) kids) (λ q. refuse 6 (omega arith) (omega arith))

  -- of nothing read and of what is read in each info: of the info that is answered
  selected-holds : (P : Info → Type 0) → P (no_info (length s)) → ((p : List ℕ) (t : Forest) → P (info_of s p t)) → P (message_says s).alert.info
  unfolding judged alert_of
  selected-holds P nothing each = message-holds (λ (m : Message). P m.alert.info) (λ n k l. nothing) (λ p t. info-holds P nothing each p (from_english s p (named s p "info" t)) (named s p "info" t))

pub no-locations-fit : (n : ℕ) → LocationsFit (no_info n).locations
unfolding every is_zero
no-locations-fit n = record { few = omega arith; long = refl; six = refl; zeros = refl }

pub info-locations-fit : (s p : List ℕ) (t : Forest) → LocationsFit (info_of s p t).locations
unfolding info_of
info-locations-fit s p t =
    fold-holds LocationsFit (with_area s p)
    (λ x e h. fold-holds LocationsFit (with_geocode s p) (location-fits s p) (named s p "geocode" e.holds) x h)
    (named s p "area" t) (no_info (length s)).locations (no-locations-fit (length s))

pub locations-fit : (s : List ℕ) → LocationsFit (message_says s).alert.info.locations
locations-fit s = selected-holds s (λ (i : Info). LocationsFit i.locations) (no-locations-fit (length s)) (info-locations-fit s)

no-audio-fits : (s : List ℕ) → AudioFits s (no_info (length s)).audio
no-audio-fits s = record { number = omega arith; uri = λ q. cc }

audio-holds : (s : List ℕ) → AudioFits s (message_says s).alert.info.audio
unfolding info_of
audio-holds s =
    selected-holds s (λ (i : Info). AudioFits s i.audio) (no-audio-fits s)
    (λ p t. fold-holds (AudioFits s) (with_resource s p) (resource-fits s p) (named s p "resource" t) (no_info (length s)).audio (no-audio-fits s))

pub audio-number : (s : List ℕ) → (message_says s).alert.info.audio.number ≤ 3
audio-number s = (audio-holds s).number

pub audio-fits : (s : List ℕ) → let a = (message_says s).alert.info.audio in eqb a.number 0 ≡ false → uri_ok (value_at s a.uri) ≡ true
audio-fits s = (audio-holds s).uri

-- ---- sent

timed-in : (s : List ℕ) (l : Leaf) → instant_in (timed s l) < span
unfolding timed
timed-in s l = either_way (λ (t : Option ℕ). instant_in t < span) (only_of l) _ _ (λ q. instant-low (value_at s l.at)) (λ q. omega arith)

pub sent-in : (s : List ℕ) → (message_says s).sent < span
unfolding judged
sent-in s = message-holds s (λ (m : Message). m.sent < span) (λ n k l. omega arith) (λ p t. timed-in s (sent_leaf (alert_of s p t)))

-- ---- number and field

lowest-most : (bs : List Bool) → lowest bs ≤ length bs
lowest-most [] = omega arith
lowest-most (true ∷ bs) = omega arith
lowest-most (false ∷ bs) = go (lowest bs) (lowest-most bs)
  where
    go : (n : ℕ) → n ≤ length bs → one_on n ≤ suc (length bs)
    go zero h = omega arith
    go (suc n) h = omega arith

number_fits : (field status scope : ℕ) (t : MsgType) → number_with field status scope t ≤ 9
unfolding number_with
number_fits field status scope t =
    either_way Fit (eqb field 0) _ _
    (λ _. either_way Fit (eqb status 1 && eqb scope 1) _ _
    (λ _. either_way Fit (is_ack_or_error t) _ _ (λ _. omega arith) (λ _. omega arith))
    (λ _. omega arith))
    (λ _. omega arith)
  where
    Fit : ℕ → Type 0
    Fit n = n ≤ 9

pub number_small : (s : List ℕ) → (message_says s).number ≤ 9
unfolding judged
number_small s =
    message-holds s (λ (m : Message). m.number ≤ 9) (λ n k l. omega arith)
    (λ p t. let a = alert_of s p t in number_fits (field_of s a) (status_of s a) (scope_of s a) (msg_type_of s a))

field-most : (s : List ℕ) (a : Alert) → field_of s a ≤ 7
field-most s a = lowest-most (faults_with s a (timed s (sent_leaf a)) (status_of s a) (msg_type_of s a) (scope_of s a))

pub field-small : (s : List ℕ) → (message_says s).field ≤ 7
unfolding judged
field-small s = message-holds s (λ (m : Message). m.field ≤ 7) (λ n k l. omega arith) (λ p t. field-most s (alert_of s p t))
