-- What the pass gathers of an info's eventCodes, parameters and resources is what the tree tells of them.
--     events-tell, parameters-tell                        the values of each name that is read
--     audio-tells                                         the audio choice
--     events-fault, parameters-fault, resources-fault     one of them at fault
use Prim.Native.Nat.{ℕ, ◌+◌, ◌<◌, min}
use Prim.Native.String.{String}
use mathlib.Core.Path.{◌≡◌, refl, sym, ap, ap₂, ◌∙◌}
use mathlib.Core.Bool.{Bool, true, false, ◌&&◌, not}
use mathlib.Core.List.{List, [], ◌∷◌, ◌++◌, map, map-append, append-nil}
use native.Mathlib.Omega.{arith}
use lib.ListN.{length, get_or, length-append, get_or-replicate}
use lib.Dec.{eqb}
use borrow.Author.Tests.{not-true}
use Rattle.octets.specs.Bytes.{pick, every}
use Rattle.octets.specs.Text.{bytes}
use Rattle.octets.proofs.Tests.{and_left, either_way}
use Rattle.markup.specs.Tree.{Forest}
use Rattle.values.specs.Value.{value_at}
use Rattle.values.proofs.Steps.{value-past}
use Rattle.reads.specs.WorkingParameters.{ReadParameter, exactly, read_parameters, parameter_count, is_of}
use Rattle.reads.specs.WorkingLeaves.{no_leaf, found, sound_of, no_info}
use Rattle.reads.proofs.ParameterRows.{row_step_lem, rows_long}
use Rattle.reads.specs.WorkingSteps.{says, event_step, parameter_step, audio_of, is_audio, audio_step, uri_ok}
use Rattle.reads.specs.declared.Leaf.{Leaf}
use Rattle.reads.specs.declared.Events.{Events}
use Rattle.reads.specs.declared.Parameters.{Parameters}
use Rattle.reads.specs.declared.Audio.{Audio}
use Rattle.gather.specs.Read.{Element, named}
use Rattle.gather.specs.WorkingRead.{leaf_in, with_event, with_parameter, with_resource, info_of}
use Rattle.leaves.proofs.Reals.{AllReal}
use Rattle.leaves.proofs.Places.{named-real}
use Rattle.told.specs.Values.{is_none, passing, first_value, Pair, pair_of, event_codes, parameters, values_where, values_named, pair_sound, resource_sound}
use Rattle.told.specs.Values.{audio_number, suitable, Choice, choice_of, audio_in}
use Rattle.told.proofs.Folds.{passing-last, values-last, pick-of, step-fault, fold-fault, fold-sound}
use Rattle.told.proofs.Leaves.{found-count, found-value, leaf-sound, leaf-value, pair-sound}

-- ---- found by name

-- a leaf found by name, and the values of that name
pub record FoundTells (s : List ℕ) (l : Leaf) (vs : List (List ℕ)) : Type 0 where
  pub count : l.count ≡ min 2 (length vs)
  pub value : value_at s l.at ≡ first_value vs

none_found : (s : List ℕ) → FoundTells s (no_leaf (length s)) []
none_found s = record { count = refl; value = value-past s (length s) (omega arith) }

-- the values that a row of the table of parameters reads
abbrev pub values_under : ReadParameter → List Pair → List (List ℕ)
values_under r xs = values_where (λ (x : Pair). is_of r x.name x.value) xs

-- one pair more, its name at i and its value at j: found where it is one of the row's
one_found : (s : List ℕ) (r : ReadParameter) (l : Leaf) (xs : List Pair) (x : Pair) (i j : ℕ) → value_at s i ≡ x.name → value_at s j ≡ x.value
    → FoundTells s l (values_under r xs) → FoundTells s (pick (is_of r (value_at s i) (value_at s j)) (found l j) l) (values_under r (xs ++ (x ∷ [])))
one_found s r l xs x i j n v h = rw (n, v, values-last (λ (y : Pair). is_of r y.name y.value) xs x) (go (is_of r x.name x.value))
  where
    vs : List (List ℕ)
    vs = values_under r xs

    one_more : length (vs ++ (x.value ∷ [])) ≡ length vs + 1
    one_more = length-append vs (x.value ∷ [])

    go : (b : Bool) → FoundTells s (pick b (found l j) l) (vs ++ pick b (x.value ∷ []) [])
    go true = record {
      count = found-count l j (length vs) h.count ∙ ap (min 2) (sym one_more);
      value = found-value s l j vs x.value h.count h.value v;
    }
    go false = rw (append-nil vs) h

module _ (s p : List ℕ) where
  -- a valueName with its value
  abbrev pub pair : Element → Pair
  pair e = pair_of s p "valueName" "value" e

  -- where the name and the value of a pair begin
  abbrev pub name_from : Element → ℕ
  name_from e = (leaf_in s p "valueName" e.holds).at

  abbrev value_from : Element → ℕ
  value_from e = (leaf_in s p "value" e.holds).at

  -- its name is this text
  abbrev pub names : Element → String → Bool
  names e w = says s (name_from e) (bytes w)

  found-tells : (r : ReadParameter) (l : Leaf) (ds : List Element) (e : Element) → AllReal s e.holds → FoundTells s l (values_under r (map pair ds))
      → FoundTells s (pick (is_of r (value_at s (name_from e)) (value_at s (value_from e))) (found l (value_from e)) l) (values_under r (map pair (ds ++ (e ∷ []))))
  found-tells r l ds e a h =
      let n = leaf-value s p "valueName" e.holds a in
      let v = leaf-value s p "value" e.holds a in
      rw (map-append pair ds (e ∷ [])) (one_found s r l (map pair ds) (pair e) (name_from e) (value_from e) n v h)

  -- ---- eventCode

  event-fault : (x : Events) (e : Element) → AllReal s e.holds → (with_event s p x e).fault ≡ pick (pair_sound s p e) x.fault true
  unfolding event_step
  event-fault x e a =
      step-fault (λ (y : Events). y.fault) _ (pair_sound s p e) x _ _ (pair-sound s p e a)
      (either_way (λ (y : Events). y.fault ≡ x.fault) (names e "SAME") _ _ (λ _. refl) (λ _. refl))
      refl

  event-same : (x : Events) (e : Element) → AllReal s e.holds → pair_sound s p e ≡ true
      → (with_event s p x e).same ≡ pick (names e "SAME") (found x.same (value_from e)) x.same
  unfolding event_step
  event-same x e a o = rw (pair-sound s p e a, o) (pick-of (λ (y : Events). y.same) (names e "SAME") _ _)

  pub events-fault : (t : Forest) → AllReal s t → (info_of s p t).events.fault ≡ not (every (pair_sound s p) (named s p "eventCode" t))
  unfolding info_of
  events-fault t r =
      fold-fault s (λ (x : Events). x.fault) (with_event s p) (pair_sound s p) event-fault
      (named s p "eventCode" t) (named-real s p "eventCode" t r) (no_info (length s)).events refl

  pub events-tell : (t : Forest) → AllReal s t → every (pair_sound s p) (named s p "eventCode" t) ≡ true
      → FoundTells s (info_of s p t).events.same (values_named "SAME" (event_codes s p t))
  unfolding info_of
  events-tell t r o =
      fold-sound s (λ (x : Events) (ds : List Element). FoundTells s x.same (values_named "SAME" (map pair ds))) (with_event s p) (pair_sound s p)
      (λ x ds e a o h. rw (event-same x e a o) (found-tells (exactly "SAME") x.same ds e a h))
      (named s p "eventCode" t) (named-real s p "eventCode" t r) o (no_info (length s)).events (none_found s)

-- ---- parameter

-- the leaf of each row, and its values among these pairs
pub record ParametersTell (s : List ℕ) (x : Parameters) (xs : List Pair) : Type 0 where
  pub all : length x.leaf ≡ parameter_count
  pub each : (k : ℕ) → k < parameter_count → FoundTells s (get_or x.leaf k (no_leaf 0)) (values_under (get_or read_parameters k (exactly "")) xs)

none-tell : (s : List ℕ) → ParametersTell s (no_info (length s)).parameters []
none-tell s = record {
  all = refl;
  each = λ k q. rw (get_or-replicate parameter_count k (no_leaf (length s)) (no_leaf 0) q) (none_found s);
}

module _ (s p : List ℕ) where
  parameter-fault : (x : Parameters) (e : Element) → AllReal s e.holds → (with_parameter s p x e).fault ≡ pick (pair_sound s p e) x.fault true
  unfolding parameter_step
  parameter-fault x e a = step-fault (λ (y : Parameters). y.fault) _ (pair_sound s p e) x _ _ (pair-sound s p e a) refl refl

  parameter-tells : (x : Parameters) (ds : List Element) (e : Element) → AllReal s e.holds → pair_sound s p e ≡ true
      → ParametersTell s x (map (pair s p) ds) → ParametersTell s (with_parameter s p x e) (map (pair s p) (ds ++ (e ∷ [])))
  unfolding parameter_step
  parameter-tells x ds e a o h =
      let name = leaf_in s p "valueName" e.holds in
      let value = leaf_in s p "value" e.holds in
      rw (pair-sound s p e a, o) (record {
        all = rows_long s name value read_parameters x.leaf h.all;
        each = λ k q.
            rw (row_step_lem s name value read_parameters x.leaf h.all k q)
            (found-tells s p (get_or read_parameters k (exactly "")) (get_or x.leaf k (no_leaf 0)) ds e a (h.each k q));
      })

  pub parameters-fault : (t : Forest) → AllReal s t → (info_of s p t).parameters.fault ≡ not (every (pair_sound s p) (named s p "parameter" t))
  unfolding info_of
  parameters-fault t r =
      fold-fault s (λ (x : Parameters). x.fault) (with_parameter s p) (pair_sound s p) parameter-fault
      (named s p "parameter" t) (named-real s p "parameter" t r) (no_info (length s)).parameters refl

  pub parameters-tell : (t : Forest) → AllReal s t → every (pair_sound s p) (named s p "parameter" t) ≡ true
      → ParametersTell s (info_of s p t).parameters (parameters s p t)
  unfolding info_of
  parameters-tell t r o =
      fold-sound s (λ (x : Parameters) (ds : List Element). ParametersTell s x (map (pair s p) ds)) (with_parameter s p) (pair_sound s p) parameter-tells
      (named s p "parameter" t) (named-real s p "parameter" t r) o (no_info (length s)).parameters (none-tell s)

-- ---- resource

-- an audio choice, and that of the tree
pub record AudioTells (s : List ℕ) (a : Audio) (c : Choice) : Type 0 where
  pub number : a.number ≡ c.number
  pub uri : pick (eqb a.number 0) [] (value_at s a.uri) ≡ c.uri

-- the first of these pairs, and 0 only where there is none
record Chosen (s : List ℕ) (a : Audio) (xs : List Pair) : Type 0 where
  pub none : eqb a.number 0 ≡ is_none xs
  pub tells : AudioTells s a (choice_of xs)

-- one pair more, its uri at j: chosen where it is the first that is suitable
abbrev chosen : Audio → Pair → ℕ → Bool → Audio
chosen a x j b = pick b (record { number = audio_number x.name; uri = j; fault = a.fault }) a

one-chosen : (s : List ℕ) (a : Audio) (xs : List Pair) (x : Pair) (j : ℕ) → value_at s j ≡ x.value → Chosen s a xs
    → Chosen s (chosen a x j (eqb a.number 0 && suitable x)) (xs ++ pick (suitable x) (x ∷ []) [])
one-chosen s a [] x j v h = rw h.none (go (suitable x) refl)
  where
    go : (b : Bool) → suitable x ≡ b → Chosen s (chosen a x j b) (pick b (x ∷ []) [])
    go true q =
        let n : eqb (audio_number x.name) 0 ≡ false = not-true (eqb (audio_number x.name) 0) (and_left _ _ q) in
        record { none = n; tells = record { number = refl; uri = rw n v } }
    go false q = h
one-chosen s a (y ∷ xs) x j v h = rw h.none (record { none = h.none; tells = record { number = h.tells.number; uri = h.tells.uri } })

module _ (s p : List ℕ) where
  -- a mimeType with its uri
  abbrev offer : Element → Pair
  offer e = pair_of s p "mimeType" "uri" e

  resource-sound : (e : Element) → AllReal s e.holds
      → (sound_of (leaf_in s p "mimeType" e.holds) && sound_of (leaf_in s p "uri" e.holds)) ≡ resource_sound s p e
  resource-sound e a = ap₂ (λ (b c : Bool). b && c) (leaf-sound s p "mimeType" e.holds a) (leaf-sound s p "uri" e.holds a)

  resource-fault : (x : Audio) (e : Element) → AllReal s e.holds → (with_resource s p x e).fault ≡ pick (resource_sound s p e) x.fault true
  unfolding audio_step
  resource-fault x e a =
      let here = is_audio s (leaf_in s p "mimeType" e.holds) (leaf_in s p "uri" e.holds) in
      step-fault (λ (y : Audio). y.fault) _ (resource_sound s p e) x _ _ (resource-sound e a)
      (either_way (λ (y : Audio). y.fault ≡ x.fault) (eqb x.number 0 && here) _ _ (λ _. refl) (λ _. refl))
      refl

  resource-chosen : (x : Audio) (ds : List Element) (e : Element) → AllReal s e.holds → resource_sound s p e ≡ true
      → Chosen s x (passing suitable (map offer ds)) → Chosen s (with_resource s p x e) (passing suitable (map offer (ds ++ (e ∷ []))))
  unfolding audio_step audio_of uri_ok
  resource-chosen x ds e a o h =
      let j = (leaf_in s p "uri" e.holds).at in
      let m = leaf-value s p "mimeType" e.holds a in
      let u = leaf-value s p "uri" e.holds a in
      rw (resource-sound e a, o, m, u, map-append offer ds (e ∷ []), passing-last suitable (map offer ds) (offer e))
      (one-chosen s x (passing suitable (map offer ds)) (offer e) j u h)

  pub resources-fault : (t : Forest) → AllReal s t → (info_of s p t).audio.fault ≡ not (every (resource_sound s p) (named s p "resource" t))
  unfolding info_of
  resources-fault t r =
      fold-fault s (λ (x : Audio). x.fault) (with_resource s p) (resource_sound s p) resource-fault
      (named s p "resource" t) (named-real s p "resource" t r) (no_info (length s)).audio refl

  pub audio-tells : (t : Forest) → AllReal s t → every (resource_sound s p) (named s p "resource" t) ≡ true
      → AudioTells s (info_of s p t).audio (audio_in s p t)
  unfolding info_of
  audio-tells t r o =
      let none = (no_info (length s)).audio in
      let h : Chosen s none [] = record { none = refl; tells = record { number = refl; uri = refl } } in
      (fold-sound s (λ (x : Audio) (ds : List Element). Chosen s x (passing suitable (map offer ds))) (with_resource s p) (resource_sound s p) resource-chosen
      (named s p "resource" t) (named-real s p "resource" t r) o none h).tells
