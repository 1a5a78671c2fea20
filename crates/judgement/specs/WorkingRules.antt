-- What a header asks: references, what the selected info says, and quiet Cancels. A leaf's value is value_at s of its place.
use Rattle.std.specs.Prelude.{ℕ, ◌-◌, Bool, true, false, ◌&&◌, not, List, [], ◌∷◌, eqb}
use Rattle.octets.specs.Bytes.{pick, every, holds}
use Rattle.clock.specs.Time.{time_of, instant_in}
use Rattle.values.specs.Value.{value_at}
use Rattle.parts.specs.Originator.{originator_of}
use Rattle.parts.specs.Parts.{event_ok}
use Rattle.parts.specs.declared.Originator.TheVariants.{Civ}
use Rattle.std.specs.Prelude.{Option, Some, None}
use Rattle.parts.specs.declared.Originator.{Originator}
use Rattle.reads.specs.WorkingLeaves.{only_of, references_leaf, expires_leaf}
use Rattle.reads.specs.WorkingSteps.{is_nothing}
use Rattle.reads.specs.declared.Leaf.{Leaf}
use Rattle.reads.specs.declared.Locations.{Locations}
use Rattle.fields.specs.WorkingFields.{references_ok}
use Rattle.fields.specs.declared.MsgType.{MsgType}
use Rattle.message.specs.WorkingMessage.{info_in}
use Rattle.message.specs.declared.Message.{Message}

-- references are judged only in Update and Cancel
abbrev pub asks_references : MsgType → Bool
asks_references MsgType.Unknown = false
asks_references MsgType.Alert = false
asks_references MsgType.Update = true
asks_references MsgType.Cancel = true
asks_references MsgType.Ack = false
asks_references MsgType.Error = false

-- a repeat of references, or a child element there, is answered 10
unfoldable pub referenced : List ℕ → Leaf → Bool
referenced s l = only_of l && references_ok (value_at s l.at)

-- references missing, malformed or over 16
unfoldable pub lacks_references : List ℕ → Message → Bool
lacks_references s m = asks_references m.msg_type && not (referenced s (references_leaf m.alert))

abbrev pub expires_in : Message → Leaf
expires_in m = expires_leaf (info_in m)

-- EEE: the one eventCode with valueName SAME, three letters A to Z, known or not
unfoldable pub event_is : List ℕ → Leaf → Bool
event_is s l = eqb l.count 1 && event_ok (value_at s l.at)

unfoldable pub event_of : List ℕ → Leaf → Option (List ℕ)
event_of s l = pick (event_is s l) (Some (value_at s l.at)) None

-- ORG: first EAS-ORG parameter, exactly PEP, EAS, WXR or CIV; absent means CIV
unfoldable pub origin_of : List ℕ → Leaf → Option Originator
origin_of s l = pick (eqb l.count 0) (Some Civ) (originator_of (value_at s l.at))

-- every geocode named SAME must be six digits, and one must be there
unfoldable pub located : Locations → Bool
located l = every holds (not l.bad ∷ not (eqb l.count 0) ∷ [])

-- the seconds from sent to expires; 0 where expires is absent, malformed or not after sent
unfoldable pub seconds_to : List ℕ → Leaf → ℕ → ℕ
seconds_to s l sent = pick (eqb l.count 0) 0 (instant_in (time_of (value_at s l.at)) - sent)

-- no SAME geocode
unfoldable pub unplaced : Locations → Bool
unplaced l = every holds (not l.bad ∷ eqb l.count 0 ∷ [])

-- an info, a SAME eventCode, a SAME geocode and an expires
abbrev pub complete : Message → List Bool
complete m =
    not (is_nothing m.alert.kept)
    ∷ not (eqb (info_in m).events.same.count 0)
    ∷ not (unplaced (info_in m).locations)
    ∷ not (eqb (expires_in m).count 0)
    ∷ []

-- a Cancel may be quiet
abbrev pub is_cancel : MsgType → Bool
is_cancel MsgType.Unknown = false
is_cancel MsgType.Alert = false
is_cancel MsgType.Update = false
is_cancel MsgType.Cancel = true
is_cancel MsgType.Ack = false
is_cancel MsgType.Error = false

-- a Cancel with no info, no SAME eventCode, no SAME geocode or no expires is quiet
unfoldable pub quiet_of : Message → Bool
quiet_of m = is_cancel m.msg_type && not (every holds (complete m))
