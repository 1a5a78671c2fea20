-- What the pass finds in an alert, over the tree: leaves, codes, choices, as places in the message. s is the message and p the root's prefix.
use Rattle.std.specs.Prelude.{ℕ, Bool, not, length}
use Prim.Native.String.{String}
use mathlib.Core.List.{List, [], ◌∷◌, foldl}
use Rattle.octets.specs.Bytes.{pick, every}
use Rattle.markup.specs.Tree.{Tag, Forest}
use Rattle.reads.specs.WorkingLeaves.{no_leaf, marked, found, sound_of, no_info}
use Rattle.reads.specs.WorkingSteps.{event_step, parameter_step, location_step, audio_step, english}
use Rattle.reads.specs.declared.Leaf.{Leaf}
use Rattle.reads.specs.declared.Events.{Events}
use Rattle.reads.specs.declared.Parameters.{Parameters}
use Rattle.reads.specs.declared.Locations.{Locations}
use Rattle.reads.specs.declared.Audio.{Audio}
use Rattle.reads.specs.declared.Info.{Info}
use Rattle.reads.specs.declared.Alert.{Alert}
use Rattle.reads.specs.declared.Kept.{Kept}
use Rattle.reads.specs.declared.Kept.TheVariants.{Nothing, First, Selected}
use Rattle.gather.specs.WorkingVisit.{leaf_place}
use Rattle.gather.specs.Read.{Element, named, bare}

-- ---- leaves

-- where the value of an element begins
abbrev pub place_in : List ℕ → Tag → ℕ
place_in s g = leaf_place s g.body g.shut

abbrev pub marked_if : Bool → Leaf → Leaf
marked_if b l = pick b (marked l) l

-- a leaf with one more element of it
abbrev pub with_leaf : List ℕ → Leaf → Element → Leaf
with_leaf s l e = found (marked_if (not (bare e.holds)) l) (place_in s e.tag)

abbrev pub with_leaves : List ℕ → Leaf → List Element → Leaf
with_leaves s l es = foldl (with_leaf s) l es

-- the leaf of this name
abbrev pub leaf_in : List ℕ → List ℕ → String → Forest → Leaf
leaf_in s p w t = with_leaves s (no_leaf (length s)) (named s p w t)

-- ---- what an info holds: eventCode, parameter, geocode (valueName, value), resource (mimeType, uri)

abbrev pub with_event : List ℕ → List ℕ → Events → Element → Events
with_event s p x e = event_step s x (leaf_in s p "valueName" e.holds) (leaf_in s p "value" e.holds)

abbrev pub with_parameter : List ℕ → List ℕ → Parameters → Element → Parameters
with_parameter s p x e = parameter_step s x (leaf_in s p "valueName" e.holds) (leaf_in s p "value" e.holds)

abbrev pub with_geocode : List ℕ → List ℕ → Locations → Element → Locations
with_geocode s p x e = location_step s x (leaf_in s p "valueName" e.holds) (leaf_in s p "value" e.holds)

abbrev pub with_resource : List ℕ → List ℕ → Audio → Element → Audio
with_resource s p x e = audio_step s x (leaf_in s p "mimeType" e.holds) (leaf_in s p "uri" e.holds)

-- an area's geocodes
abbrev pub with_area : List ℕ → List ℕ → Locations → Element → Locations
with_area s p x e = foldl (with_geocode s p) x (named s p "geocode" e.holds)

-- what is read in an info whose content is t
unfoldable pub info_of : List ℕ → List ℕ → Forest → Info
info_of s p t = record {
  leaf = leaf_in s p "language" t ∷ leaf_in s p "expires" t ∷ leaf_in s p "senderName" t ∷ leaf_in s p "description" t ∷ leaf_in s p "instruction" t ∷ [];
  events = foldl (with_event s p) (no_info (length s)).events (named s p "eventCode" t);
  parameters = foldl (with_parameter s p) (no_info (length s)).parameters (named s p "parameter" t);
  locations = foldl (with_area s p) (no_info (length s)).locations (named s p "area" t);
  audio = foldl (with_resource s p) (no_info (length s)).audio (named s p "resource" t);
}

-- ---- the info that is selected

abbrev pub language_in : List ℕ → List ℕ → Element → Leaf
language_in s p e = leaf_in s p "language" e.holds

-- the first info whose language is absent, empty or `en-US` in any letter case, and those after it
unfoldable pub from_english : List ℕ → List ℕ → List Element → List Element
from_english s p [] = []
from_english s p (e ∷ es) = pick (english s (language_in s p e)) (e ∷ es) (from_english s p es)

-- it is selected; if none, the first is; where there is no info, none
unfoldable pub selection : List Element → List Element → Kept
selection [] [] = Nothing
selection [] (e ∷ es) = First
selection (e ∷ es) all = Selected

unfoldable pub selected : List ℕ → List ℕ → List Element → List Element → Info
selected s p [] [] = no_info (length s)
selected s p [] (e ∷ es) = info_of s p e.holds
selected s p (e ∷ es) all = info_of s p e.holds

-- apart from language, which is read in each
abbrev pub languages_ok : List ℕ → List ℕ → List Element → Bool
languages_ok s p es = every (λ e. sound_of (language_in s p e)) es

-- ---- the alert

-- what is read in an alert whose content is t: identifier, sender, sent, status, msgType, scope, references, info
unfoldable pub alert_of : List ℕ → List ℕ → Forest → Alert
alert_of s p t = record {
  leaf =
      leaf_in s p "identifier" t
      ∷ leaf_in s p "sender" t
      ∷ leaf_in s p "sent" t
      ∷ leaf_in s p "status" t
      ∷ leaf_in s p "msgType" t
      ∷ leaf_in s p "scope" t
      ∷ leaf_in s p "references" t
      ∷ [];
  kept = selection (from_english s p (named s p "info" t)) (named s p "info" t);
  info = selected s p (from_english s p (named s p "info" t)) (named s p "info" t);
  fault = not (languages_ok s p (named s p "info" t));
}
