-- Every place that is answered lies in the message.
--     leaf-inside      the place of a leaf of any name
--     message-inside   every place in what is answered for a message
use Prim.Native.Nat.{ℕ, ◌+◌, ◌≤◌}
use mathlib.Core.Path.{◌≡◌, refl}
use mathlib.Core.Bool.{Bool, true, false, ◌&&◌, not}
use mathlib.Core.List.{List, [], ◌∷◌, foldl}
use native.Mathlib.Omega.{arith}
use lib.ListN.{length}
use lib.Dec.{eqb}
use Rattle.octets.specs.Bytes.{between, same}
use Rattle.octets.specs.Text.{bytes}
use Rattle.octets.proofs.Tests.{either_way}
use Prim.Native.String.{String}
use Rattle.markup.specs.Tree.{Forest, nil, text, elem, One, one, none}
use Rattle.markup.specs.Document.{doc_at}
use Rattle.reads.specs.WorkingLeaves.{no_leaf, found, sound_of, pair_ok, no_info, nothing_read}
use Rattle.reads.specs.WorkingSteps.{says, is_audio, event_step, rows_step, parameter_step, audio_step, english}
use Rattle.reads.specs.WorkingParameters.{ReadParameter, read_parameters, is_of}
use Rattle.values.specs.Value.{value_at}
use Rattle.reads.specs.declared.Leaf.{Leaf}
use Rattle.reads.specs.declared.Events.{Events}
use Rattle.reads.specs.declared.Parameters.{Parameters}
use Rattle.reads.specs.declared.Audio.{Audio}
use Rattle.reads.specs.declared.Info.{Info}
use Rattle.reads.specs.declared.Alert.{Alert}
use Rattle.gather.specs.Read.{Element, name_in, keep, named, bare}
use Rattle.gather.specs.WorkingRead.{place_in, marked_if, with_leaf, leaf_in, with_event, with_parameter, with_resource, info_of, language_in, from_english, selected, alert_of}
use Rattle.message.specs.Root.{prefix_of, root_ok}
use Rattle.message.specs.WorkingMessage.{judged, judged_root, of_root, message_says}
use Rattle.message.specs.declared.Message.{Message}
use Rattle.leaves.proofs.Reals.{Real, AllReal, leaf-is}

module _ (s : List ℕ) where
  -- ---- places in the message

  abbrev pub In : Leaf → Type 0
  In l = l.at ≤ length s

  abbrev pub AllIn : List Leaf → Type 0
  AllIn [] = Unit {0}
  AllIn (l ∷ ls) = In l × AllIn ls

  abbrev pub ParametersIn : Parameters → Type 0
  ParametersIn x = AllIn x.leaf

  abbrev pub EventsIn : Events → Type 0
  EventsIn x = In x.same

  abbrev pub AudioIn : Audio → Type 0
  AudioIn x = x.uri ≤ length s

  pub record InfoIn (i : Info) : Type 0 where
    pub leaf : AllIn i.leaf
    pub events : EventsIn i.events
    pub parameters : ParametersIn i.parameters
    pub audio : AudioIn i.audio

  pub record AlertIn (a : Alert) : Type 0 where
    pub leaf : AllIn a.leaf
    pub info : InfoIn a.info

  nothing-in : InfoIn (no_info (length s))
  nothing-in = record {
    leaf = (omega arith, (omega arith, (omega arith, (omega arith, (omega arith, tt)))));
    events = omega arith;
    parameters = (omega arith, (omega arith, (omega arith, (omega arith, tt))));
    audio = omega arith;
  }

  fresh_in : AlertIn (nothing_read (length s)).alert
  fresh_in = record {
    leaf = (omega arith, (omega arith, (omega arith, (omega arith, (omega arith, (omega arith, (omega arith, tt)))))));
    info = nothing-in;
  }

  -- ---- what one element adds

  found_in : (l : Leaf) (i : ℕ) → In l → i ≤ length s → In (found l i)
  found_in l i h k = either_way (λ (n : ℕ). n ≤ length s) (eqb l.count 0) i l.at (λ _. k) (λ _. h)

  added-in : (l : Leaf) (e : Element) → Real s e.tag e.holds → AllReal s e.holds → In l → In (with_leaf s l e)
  added-in l e r a h = go (bare e.holds)
    where
      go : (b : Bool) → In (found (marked_if (not b) l) (place_in s e.tag))
      go true = found_in l (place_in s e.tag) h r.inside
      go false = found_in (marked_if true l) (place_in s e.tag) h r.inside

  event-in : (x : Events) (name value : Leaf) → In value → EventsIn x → EventsIn (event_step s x name value)
  unfolding event_step
  event-in x name value v h =
      either_way EventsIn (pair_ok name value) _ _
      (λ _. either_way EventsIn (says s name.at (bytes "SAME")) _ _ (λ _. found_in x.same value.at h v) (λ _. h))
      (λ _. h)

  rows_in : (name value : Leaf) → In value → (rows : List ReadParameter) (ls : List Leaf) → AllIn ls → AllIn (rows_step s name value rows ls)
  unfolding rows_step
  rows_in name value v [] ls h = tt
  rows_in name value v (r ∷ rows) [] h = tt
  rows_in name value v (r ∷ rows) (l ∷ ls) h = (
    either_way In (is_of r (value_at s name.at) (value_at s value.at)) _ _ (λ _. found_in l value.at h.0 v) (λ _. h.0),
    rows_in name value v rows ls h.1,
  )

  parameter-in : (x : Parameters) (name value : Leaf) → In value → ParametersIn x → ParametersIn (parameter_step s x name value)
  unfolding parameter_step
  parameter-in x name value v h = either_way ParametersIn (pair_ok name value) _ _ (λ _. rows_in name value v read_parameters x.leaf h) (λ _. h)

  audio-in : (x : Audio) (mime uri : Leaf) → In uri → AudioIn x → AudioIn (audio_step s x mime uri)
  unfolding audio_step
  audio-in x mime uri v h =
      either_way AudioIn (sound_of mime && sound_of uri) _ _
      (λ _. either_way AudioIn (eqb x.number 0 && is_audio s mime uri) _ _ (λ _. v) (λ _. h))
      (λ _. h)

  -- ---- elements of a message

  abbrev pub Reals : List Element → Type 0
  Reals [] = Unit {0}
  Reals (e ∷ es) = Real s e.tag e.holds × AllReal s e.holds × Reals es

  -- what each element keeps, all of them keep
  fold-keeps : {A : Type 0} (P : A → Type 0) (f : A → Element → A)
      → ((x : A) (e : Element) → Real s e.tag e.holds → AllReal s e.holds → P x → P (f x e))
      → (es : List Element) → Reals es → (x : A) → P x → P (foldl f x es)
  fold-keeps P f k [] r x h = h
  fold-keeps P f k (e ∷ es) r x h = fold-keeps P f k es r.2 (f x e) (k x e r.0 r.1 h)

module _ (s p : List ℕ) where
  pub named-real : (w : String) (t : Forest) → AllReal s t → Reals s (named s p w t)
  unfolding named
  named-real w nil r = tt
  named-real w (text i j rest) r = named-real w rest r
  named-real w (elem g kids rest) r = go (same (name_in s p g) (bytes w)) (named-real w rest r.2)
    where
      go : (b : Bool) → Reals s (named s p w rest) → Reals s (keep b (record { tag = g; holds = kids }) (named s p w rest))
      go true h = (r.0, r.1, h)
      go false h = h

  pub leaf-inside : (w : String) (t : Forest) → AllReal s t → In s (leaf_in s p w t)
  leaf-inside w t r = fold-keeps s (In s) (with_leaf s) (added-in s) (named s p w t) (named-real w t r) (no_leaf (length s)) (omega arith)

  info-in : (t : Forest) → AllReal s t → InfoIn s (info_of s p t)
  unfolding info_of
  info-in t r = record {
    leaf = (leaf-inside "language" t r, (leaf-inside "expires" t r, (leaf-inside "senderName" t r, (leaf-inside "description" t r, (leaf-inside "instruction" t r, tt)))));
    events = fold-keeps s (EventsIn s) (with_event s p) (λ x e q a. event-in s x (leaf_in s p "valueName" e.holds) (leaf_in s p "value" e.holds) (leaf-inside "value" e.holds a))
        (named s p "eventCode" t) (named-real "eventCode" t r) (no_info (length s)).events (omega arith);
    parameters = fold-keeps s (ParametersIn s) (with_parameter s p) (λ x e q a. parameter-in s x (leaf_in s p "valueName" e.holds) (leaf_in s p "value" e.holds) (leaf-inside "value" e.holds a))
        (named s p "parameter" t) (named-real "parameter" t r) (no_info (length s)).parameters (omega arith, (omega arith, (omega arith, (omega arith, tt))));
    audio = fold-keeps s (AudioIn s) (with_resource s p) (λ x e q a. audio-in s x (leaf_in s p "mimeType" e.holds) (leaf_in s p "uri" e.holds) (leaf-inside "uri" e.holds a))
        (named s p "resource" t) (named-real "resource" t r) (no_info (length s)).audio (omega arith);
  }

  english-real : (es : List Element) → Reals s es → Reals s (from_english s p es)
  unfolding from_english
  english-real [] r = tt
  english-real (e ∷ es) r = either_way (Reals s) (english s (language_in s p e)) (e ∷ es) (from_english s p es) (λ _. r) (λ _. english-real es r.2)

  selected-in : (xs es : List Element) → Reals s xs → Reals s es → InfoIn s (selected s p xs es)
  unfolding selected
  selected-in [] [] x r = nothing-in s
  selected-in [] (e ∷ es) x r = info-in e.holds r.1
  selected-in (y ∷ ys) es x r = info-in y.holds x.1

  alert-in : (t : Forest) → AllReal s t → AlertIn s (alert_of s p t)
  unfolding alert_of
  alert-in t r = record {
    leaf = (leaf-inside "identifier" t r, (leaf-inside "sender" t r, (leaf-inside "sent" t r, (leaf-inside "status" t r, (leaf-inside "msgType" t r, (leaf-inside "scope" t r, (leaf-inside "references" t r, tt)))))));
    info = selected-in (from_english s p (named s p "info" t)) (named s p "info" t) (english-real (named s p "info" t) (named-real "info" t r)) (named-real "info" t r);
  }

-- what is absent or refused stands at the message's end
pub message-inside : (s : List ℕ) → AlertIn s (message_says s).alert
unfolding message_says of_root judged_root judged
message-inside s = either_way Inside (between 1 32768 (length s)) _ _ (λ _. go (doc_at s) refl) (λ _. fresh_in s)
  where
    Inside : Message → Type 0
    Inside m = AlertIn s m.alert

    go : (o : One) → doc_at s ≡ o → Inside (of_root s o)
    go none q = fresh_in s
    go (one g kids e) q = either_way Inside (root_ok s (g.from + 1) g.name) _ _ (λ _. alert-in s (prefix_of s (g.from + 1) g.name) kids (leaf-is s g kids e q)) (λ _. fresh_in s)
