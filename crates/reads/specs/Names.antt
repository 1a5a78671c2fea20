-- Which elements are read, and where.
use Rattle.std.specs.Prelude.{ℕ, ◌+◌, ◌-◌, ◌&&◌, List, [], ◌∷◌, length, leb}
use Prim.Native.String.{String}
use Rattle.octets.specs.Bytes.{pick, part, same, stands}
use Rattle.octets.specs.Text.{bytes}
use Rattle.reads.specs.declared.Kept.{Kept}
use Rattle.reads.specs.declared.Kept.TheVariants.{Nothing, First, Selected}
use Rattle.reads.specs.declared.Context.{Context}
use Rattle.reads.specs.declared.Context.TheVariants.{Root, Alert, Info, Later, EventCode, Parameter, Resource, Area, Geocode, AlertLeaf, InfoLeaf, PairLeaf, Skipped}

-- elements read carry the root's prefix p, or none if it has none: where the name from i to a goes on behind the prefix; its end where it does not carry it
unfoldable pub local_at : List ℕ → List ℕ → ℕ → ℕ → ℕ
local_at s p i a = pick (leb (length p) (a - i) && stands p s i) (i + length p) a

-- the name without the prefix; nothing, which no element read is named, where it does not carry it
abbrev pub name_of : List ℕ → List ℕ → ℕ → ℕ → List ℕ
name_of s p i a = part s (local_at s p i a) (a - local_at s p i a)

-- an element that is read: its name, and the context inside it
pub record ReadElement : Type 0 where
  pub name : String
  pub inside : Context

-- every other element is skipped whole
unfoldable pub among : List ReadElement → List ℕ → Context
among [] w = Skipped
among (r ∷ rs) w = pick (same w (bytes r.name)) r.inside (among rs w)

-- behind the info that is selected only the language of an info is read
abbrev pub info_inside : Kept → Context
info_inside Nothing = Info
info_inside First = Info
info_inside Selected = Later

-- read in `alert`: 1 identifier, 2 sender, 3 sent, 4 status, 5 msgType, 6 scope, references, info
abbrev pub in_alert : Kept → List ReadElement
in_alert kept =
    record { name = "identifier"; inside = AlertLeaf 0 }
    ∷ record { name = "sender"; inside = AlertLeaf 1 }
    ∷ record { name = "sent"; inside = AlertLeaf 2 }
    ∷ record { name = "status"; inside = AlertLeaf 3 }
    ∷ record { name = "msgType"; inside = AlertLeaf 4 }
    ∷ record { name = "scope"; inside = AlertLeaf 5 }
    ∷ record { name = "references"; inside = AlertLeaf 6 }
    ∷ record { name = "info"; inside = info_inside kept }
    ∷ []

-- read there: language, eventCode, expires, senderName, description, instruction, parameter, resource, area
abbrev pub in_info : List ReadElement
in_info =
    record { name = "language"; inside = InfoLeaf 0 }
    ∷ record { name = "eventCode"; inside = EventCode }
    ∷ record { name = "expires"; inside = InfoLeaf 1 }
    ∷ record { name = "senderName"; inside = InfoLeaf 2 }
    ∷ record { name = "description"; inside = InfoLeaf 3 }
    ∷ record { name = "instruction"; inside = InfoLeaf 4 }
    ∷ record { name = "parameter"; inside = Parameter }
    ∷ record { name = "resource"; inside = Resource }
    ∷ record { name = "area"; inside = Area }
    ∷ []

abbrev pub in_later : List ReadElement
in_later = record { name = "language"; inside = InfoLeaf 0 } ∷ []

abbrev pub in_pair : List ReadElement
in_pair = record { name = "valueName"; inside = PairLeaf 0 } ∷ record { name = "value"; inside = PairLeaf 1 } ∷ []

-- resource (mimeType, uri)
abbrev pub in_resource : List ReadElement
in_resource = record { name = "mimeType"; inside = PairLeaf 0 } ∷ record { name = "uri"; inside = PairLeaf 1 } ∷ []

-- area (geocode)
abbrev pub in_area : List ReadElement
in_area = record { name = "geocode"; inside = Geocode } ∷ []

abbrev pub alert_context : Kept → List ℕ → Context
alert_context kept w = among (in_alert kept) w

abbrev pub info_context : List ℕ → Context
info_context w = among in_info w

abbrev pub later_context : List ℕ → Context
later_context w = among in_later w

abbrev pub pair_context : List ℕ → Context
pair_context w = among in_pair w

abbrev pub resource_context : List ℕ → Context
resource_context w = among in_resource w

abbrev pub area_context : List ℕ → Context
area_context w = among in_area w

-- the context inside an element of the name w that stands in the context c
unfoldable pub inside : Kept → Context → List ℕ → Context
inside kept Root w = Alert
inside kept Alert w = alert_context kept w
inside kept Info w = info_context w
inside kept Later w = later_context w
inside kept EventCode w = pair_context w
inside kept Parameter w = pair_context w
inside kept Geocode w = pair_context w
inside kept Resource w = resource_context w
inside kept Area w = area_context w
inside kept (AlertLeaf k) w = Skipped
inside kept (InfoLeaf k) w = Skipped
inside kept (PairLeaf k) w = Skipped
inside kept Skipped w = Skipped

abbrev pub context_of : List ℕ → List ℕ → ℕ → ℕ → Context → Kept → Context
context_of s p i a c kept = inside kept c (name_of s p i a)
