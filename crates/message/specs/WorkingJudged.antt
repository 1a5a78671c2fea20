-- What is read in an alert, judged: fields at fault, and numbers 7 to 9.
use Rattle.std.specs.Prelude.{ℕ, Bool, true, false, ◌&&◌, ◌||◌, not, List, [], ◌∷◌, eqb}
use Prim.Native.String.{String}
use Rattle.octets.specs.Bytes.{pick, every, holds}
use Rattle.clock.specs.Time.{time_of, is_time}
use Rattle.std.specs.Prelude.{Option, Some, None}
use Rattle.values.specs.Value.{value_at}
use Rattle.reads.specs.WorkingLeaves.{sound_of, only_of, identifier_leaf, sender_leaf, sent_leaf, status_leaf, msg_type_leaf, scope_leaf, expires_leaf, sender_name_leaf, description_leaf, instruction_leaf}
use Rattle.reads.specs.declared.Leaf.{Leaf}
use Rattle.reads.specs.declared.Info.{Info}
use Rattle.reads.specs.declared.Alert.{Alert}
use Rattle.fields.specs.Fields.{identity_ok}
use Rattle.fields.specs.WorkingFields.{index_in, statuses, scopes, msg_type_in}
use Rattle.fields.specs.declared.MsgType.{MsgType}
use Rattle.faults.specs.WorkingField.{lowest}

-- where the value of a leaf begins that is the only one of its name
unfoldable pub place_in : Leaf → Option ℕ
place_in l = pick (only_of l) (Some l.at) None

-- identifier or sender; what is empty is none
unfoldable pub identified : List ℕ → Leaf → Bool
identified s l = only_of l && identity_ok (value_at s l.at)

-- sent
unfoldable pub timed : List ℕ → Leaf → Option ℕ
timed s l = pick (only_of l) (time_of (value_at s l.at)) None

-- status and scope: the place of the value among those of CAP 1.2; 0 for one unknown to it
unfoldable pub place_among : List ℕ → List String → Leaf → ℕ
place_among s ws l = pick (only_of l) (index_in ws (value_at s l.at)) 0

abbrev pub status_of : List ℕ → Alert → ℕ
status_of s a = place_among s statuses (status_leaf a)

abbrev pub scope_of : List ℕ → Alert → ℕ
scope_of s a = place_among s scopes (scope_leaf a)

-- msgType; Unknown for one unknown to CAP 1.2
unfoldable pub typed : List ℕ → Leaf → MsgType
typed s l = pick (only_of l) (msg_type_in (value_at s l.at)) MsgType.Unknown

abbrev pub msg_type_of : List ℕ → Alert → MsgType
msg_type_of s a = typed s (msg_type_leaf a)

-- none of CAP 1.2's
abbrev pub is_unknown : MsgType → Bool
is_unknown MsgType.Unknown = true
is_unknown MsgType.Alert = false
is_unknown MsgType.Update = false
is_unknown MsgType.Cancel = false
is_unknown MsgType.Ack = false
is_unknown MsgType.Error = false

-- number 9
abbrev pub is_ack_or_error : MsgType → Bool
is_ack_or_error MsgType.Unknown = false
is_ack_or_error MsgType.Alert = false
is_ack_or_error MsgType.Update = false
is_ack_or_error MsgType.Cancel = false
is_ack_or_error MsgType.Ack = true
is_ack_or_error MsgType.Error = true

-- the leaves of the info that is selected, apart from language: expires, senderName, description, instruction; its eventCodes, parameters, geocodes, resources
abbrev pub info_tests : Info → List Bool
info_tests i =
    sound_of (expires_leaf i)
    ∷ sound_of (sender_name_leaf i)
    ∷ sound_of (description_leaf i)
    ∷ sound_of (instruction_leaf i)
    ∷ not i.events.fault
    ∷ not i.parameters.fault
    ∷ not i.locations.fault
    ∷ not i.audio.fault
    ∷ []

unfoldable pub info_ok : Info → Bool
info_ok i = every holds (info_tests i)

-- the fields at fault, in their order; the last is any other read leaf
abbrev pub faults_with : List ℕ → Alert → Option ℕ → ℕ → MsgType → ℕ → List Bool
faults_with s a sent status msg_type scope =
    not (identified s (identifier_leaf a))
    ∷ not (identified s (sender_leaf a))
    ∷ not (is_time sent)
    ∷ eqb status 0
    ∷ is_unknown msg_type
    ∷ eqb scope 0
    ∷ (a.fault || not (info_ok a.info))
    ∷ []

-- the lowest of 1 to 6 at fault, else 7; 0 where none is
abbrev pub field_of : List ℕ → Alert → ℕ
field_of s a = lowest (faults_with s a (timed s (sent_leaf a)) (status_of s a) (msg_type_of s a) (scope_of s a))

-- 7 a read leaf at fault; 8 status not Actual, or scope not Public; 9 msgType Ack or Error
unfoldable pub number_with : ℕ → ℕ → ℕ → MsgType → ℕ
number_with field status scope msg_type = pick (eqb field 0) (pick (eqb status 1 && eqb scope 1) (pick (is_ack_or_error msg_type) 9 0) 8) 7

abbrev pub message_number : List ℕ → Alert → ℕ
message_number s a = number_with (field_of s a) (status_of s a) (scope_of s a) (msg_type_of s a)
