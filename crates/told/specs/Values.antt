-- What a message says, on its tree: the values of leaves, of pairs by name, the info that is selected, the audio choice. s is the message, p the root's prefix,
-- and t what an element holds.
use Rattle.std.specs.Prelude.{ℕ, Bool, true, false, ◌&&◌, ◌||◌, not, length, eqb, leb}
use Prim.Native.String.{String}
use mathlib.Core.List.{List, [], ◌∷◌, ◌++◌, map, flat_map}
use Rattle.octets.specs.Bytes.{pick, every, holds, between, same, is_digit}
use Rattle.octets.specs.Text.{bytes}
use Rattle.markup.specs.Tree.{Forest, nil}
use Rattle.values.specs.Value.{small}
use Rattle.gather.specs.Read.{Element, named, bare}
use Rattle.leaves.specs.Leaf.{leaf_value}

-- ---- lists

abbrev pub is_none : {A : Type 0} → List A → Bool
is_none [] = true
is_none (x ∷ xs) = false

-- those that pass, in their order
abbrev pub passing : {A : Type 0} → (A → Bool) → List A → List A
passing f [] = []
passing f (x ∷ xs) = pick (f x) (x ∷ passing f xs) (passing f xs)

-- the first; empty where there is none
abbrev pub first_value : List (List ℕ) → List ℕ
first_value [] = []
first_value (v ∷ vs) = v

-- v is this text
abbrev pub is : String → List ℕ → Bool
is w v = same v (bytes w)

-- v is one of these texts
abbrev pub is_one : List String → List ℕ → Bool
is_one [] v = false
is_one (w ∷ ws) v = is w v || is_one ws v

-- ---- leaves

-- the values of the elements of this name, in message order
abbrev pub values_of : List ℕ → List ℕ → String → Forest → List (List ℕ)
values_of s p w t = map (λ (e : Element). leaf_value s e.holds) (named s p w t)

-- a leaf's value: that of the first element of its name
abbrev pub value_of : List ℕ → List ℕ → String → Forest → List ℕ
value_of s p w t = first_value (values_of s p w t)

abbrev pub hold_none : List Element → Bool
hold_none es = every (λ (e : Element). bare e.holds) es

-- exactly once, and holding no element
abbrev pub once : List ℕ → List ℕ → String → Forest → Bool
once s p w t = eqb (length (named s p w t)) 1 && hold_none (named s p w t)

-- a leaf that is read and repeated, or holds an element, is fault 7
abbrev pub sound : List ℕ → List ℕ → String → Forest → Bool
sound s p w t = leb (length (named s p w t)) 1 && hold_none (named s p w t)

-- ---- eventCode, parameter, geocode (valueName, value), resource (mimeType, uri)

pub record Pair : Type 0 where
  pub name : List ℕ
  pub value : List ℕ

abbrev pub pair_of : List ℕ → List ℕ → String → String → Element → Pair
pair_of s p w x e = record { name = value_of s p w e.holds; value = value_of s p x e.holds }

-- the geocodes of every area, in message order
abbrev pub geocodes_in : List ℕ → List ℕ → Forest → List Element
geocodes_in s p t = flat_map (λ (e : Element). named s p "geocode" e.holds) (named s p "area" t)

abbrev pub event_codes : List ℕ → List ℕ → Forest → List Pair
event_codes s p t = map (pair_of s p "valueName" "value") (named s p "eventCode" t)

abbrev pub parameters : List ℕ → List ℕ → Forest → List Pair
parameters s p t = map (pair_of s p "valueName" "value") (named s p "parameter" t)

abbrev pub geocodes : List ℕ → List ℕ → Forest → List Pair
geocodes s p t = map (pair_of s p "valueName" "value") (geocodes_in s p t)

abbrev pub resources : List ℕ → List ℕ → Forest → List Pair
resources s p t = map (pair_of s p "mimeType" "uri") (named s p "resource" t)

-- the values of the pairs that pass, in message order
abbrev pub values_where : (Pair → Bool) → List Pair → List (List ℕ)
values_where f [] = []
values_where f (x ∷ xs) = pick (f x) (x.value ∷ values_where f xs) (values_where f xs)

-- of exactly this name
abbrev pub values_named : String → List Pair → List (List ℕ)
values_named w xs = values_where (λ (x : Pair). is w x.name) xs

-- six digits
abbrev pub is_six : List ℕ → Bool
is_six v = eqb (length v) 6 && every is_digit v

-- a valueName or value missing in a read eventCode, parameter or geocode is fault 7 too
abbrev pub pair_sound : List ℕ → List ℕ → Element → Bool
pair_sound s p e = once s p "valueName" e.holds && once s p "value" e.holds

abbrev pub resource_sound : List ℕ → List ℕ → Element → Bool
resource_sound s p e = sound s p "mimeType" e.holds && sound s p "uri" e.holds

-- read there: eventCode, expires, senderName, description, instruction, parameter, resource (mimeType, uri), area (geocode)
abbrev pub info_sound : List ℕ → List ℕ → Forest → Bool
info_sound s p t =
    every holds (
    sound s p "expires" t
    ∷ sound s p "senderName" t
    ∷ sound s p "description" t
    ∷ sound s p "instruction" t
    ∷ every (pair_sound s p) (named s p "eventCode" t)
    ∷ every (pair_sound s p) (named s p "parameter" t)
    ∷ every (pair_sound s p) (geocodes_in s p t)
    ∷ every (resource_sound s p) (named s p "resource" t)
    ∷ []
    )

-- ---- the selected info

-- its language is absent, empty or `en-US` in any letter case
abbrev pub is_english : List ℕ → List ℕ → Element → Bool
is_english s p e = let v = value_of s p "language" e.holds in is "" v || is "en-us" (map small v)

abbrev pub held_by : List Element → Forest
held_by [] = nil
held_by (e ∷ es) = e.holds

-- what the first info of such a language holds; if none, the first info; t is what the alert holds
abbrev pub selected_in : List ℕ → List ℕ → Forest → Forest
selected_in s p t = held_by (passing (is_english s p) (named s p "info" t) ++ named s p "info" t)

-- language is read in each
abbrev pub languages_sound : List ℕ → List ℕ → Forest → Bool
languages_sound s p t = every (λ (e : Element). sound s p "language" e.holds) (named s p "info" t)

-- ---- audio

-- mimeType `audio/x-ipaws-audio-mp3` (1), `audio/x-ipaws-audio-wav` (2) or `audio/x-ipaws-streaming-audio-mp3` (3)
abbrev pub audio_number : List ℕ → ℕ
audio_number v = pick (is "audio/x-ipaws-audio-mp3" v) 1 (pick (is "audio/x-ipaws-audio-wav" v) 2 (pick (is "audio/x-ipaws-streaming-audio-mp3" v) 3 0))

-- and a uri of 1 to 1,024 characters of 32 to 126
abbrev pub suitable : Pair → Bool
suitable x = not (eqb (audio_number x.name) 0) && every holds (between 1 1024 (length x.value) ∷ every (between 32 126) x.value ∷ [])

pub record Choice : Type 0 where
  pub number : ℕ
  pub uri : List ℕ

abbrev pub choice_of : List Pair → Choice
choice_of [] = record { number = 0; uri = [] }
choice_of (x ∷ xs) = record { number = audio_number x.name; uri = x.value }

-- the first resource with such a mimeType and uri; else 0
abbrev pub audio_in : List ℕ → List ℕ → Forest → Choice
audio_in s p t = choice_of (passing suitable (resources s p t))
