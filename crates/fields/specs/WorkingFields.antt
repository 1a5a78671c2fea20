-- What the values of status, msgType, scope and references may be, as the code asks them.
use Rattle.std.specs.Prelude.{ℕ, zero, suc, Bool, List, [], ◌∷◌, length}
use Prim.Native.String.{String}
use Rattle.octets.specs.Bytes.{pick, every, holds, between, same}
use Rattle.octets.specs.Text.{bytes}
use Rattle.std.specs.Prelude.{Option, Some, None}
use Rattle.fields.specs.declared.Status.{Status}
use Rattle.fields.specs.declared.Scope.{Scope}
use Rattle.fields.specs.declared.MsgType.{MsgType}
use Rattle.fields.specs.declared.MsgType.TheVariants.{Unknown, Alert, Update, Cancel, Ack, Error}
use Rattle.clock.specs.Time.{time_of, is_time}
use Rattle.fields.specs.Fields.{identity_ok}
use Rattle.fields.specs.References.{sender_of, identifier_of, sent_of, words}

abbrev pub place_on : ℕ → ℕ
place_on zero = 0
place_on (suc n) = suc (suc n)

-- the place of a value among these, counted from 1; 0 where it is none of them
unfoldable pub index_in : List String → List ℕ → ℕ
index_in [] v = 0
index_in (w ∷ ws) v = pick (same v (bytes w)) 1 (place_on (index_in ws v))

-- the values of CAP 1.2 for status and scope
abbrev pub statuses : List String
statuses = "Actual" ∷ "Exercise" ∷ "System" ∷ "Test" ∷ "Draft" ∷ []

abbrev pub scopes : List String
scopes = "Public" ∷ "Restricted" ∷ "Private" ∷ []

-- and their places
abbrev pub status_place : Option Status → ℕ
status_place None = 0
status_place (Some Status.Actual) = 1
status_place (Some Status.Exercise) = 2
status_place (Some Status.System) = 3
status_place (Some Status.Test) = 4
status_place (Some Status.Draft) = 5

abbrev pub scope_place : Option Scope → ℕ
scope_place None = 0
scope_place (Some Scope.Public) = 1
scope_place (Some Scope.Restricted) = 2
scope_place (Some Scope.Private) = 3

-- the msgType of CAP 1.2 that the value is; Unknown where it is none of them
unfoldable pub msg_type_in : List ℕ → MsgType
msg_type_in v =
    pick (same v (bytes "Alert")) Alert
    (pick (same v (bytes "Update")) Update
    (pick (same v (bytes "Cancel")) Cancel
    (pick (same v (bytes "Ack")) Ack
    (pick (same v (bytes "Error")) Error
    Unknown))))

-- ---- a group: sender, identifier and sent, parted by commas

unfoldable pub group_ok : List ℕ → Bool
group_ok w = every holds (identity_ok (sender_of w) ∷ identity_ok (identifier_of w) ∷ is_time (time_of (sent_of w)) ∷ [])

-- ---- groups, parted by space

unfoldable pub references_ok : List ℕ → Bool
references_ok v = every holds (between 1 16 (length (words v)) ∷ every group_ok (words v) ∷ [])
