-- Leaves as they are found, and nothing found yet.
use Rattle.std.specs.Prelude.{ℕ, Bool, true, false, not, [], ◌∷◌, replicate, get_or, eqb, leb}
use Rattle.octets.specs.Bytes.{pick, every, holds}
use Rattle.reads.specs.declared.Leaf.{Leaf}
use Rattle.reads.specs.declared.Info.{Info}
use Rattle.reads.specs.declared.Alert.{Alert}
use Rattle.reads.specs.declared.Kept.TheVariants.{Nothing}
use Rattle.reads.specs.declared.State.{State}
use Rattle.reads.specs.WorkingParameters.{parameter_count}

-- a leaf that is absent from a message of n bytes: its value, at the message's end, is empty
abbrev pub no_leaf : ℕ → Leaf
no_leaf n = record { count = 0; at = n; holds = false }

-- one of them holds an element
abbrev pub marked : Leaf → Leaf
marked l = record { count = l.count; at = l.at; holds = true }

-- one more stands: the first one's place is kept, and more than two count as two
abbrev pub found : Leaf → ℕ → Leaf
found l at = record { count = pick (eqb l.count 0) 1 2; at = pick (eqb l.count 0) at l.at; holds = l.holds }

-- a leaf that is read and repeated, or holds an element, is fault 7
unfoldable pub sound_of : Leaf → Bool
sound_of l = every holds (leb l.count 1 ∷ not l.holds ∷ [])

-- exactly once, and holding no element
unfoldable pub only_of : Leaf → Bool
only_of l = every holds (eqb l.count 1 ∷ not l.holds ∷ [])

-- so is a valueName or value missing in a read eventCode, parameter or geocode
unfoldable pub pair_ok : Leaf → Leaf → Bool
pair_ok name value = every holds (not (eqb name.count 0) ∷ not (eqb value.count 0) ∷ sound_of name ∷ sound_of value ∷ [])

-- nothing of an info
abbrev pub no_info : ℕ → Info
no_info n = record {
  leaf = no_leaf n ∷ no_leaf n ∷ no_leaf n ∷ no_leaf n ∷ no_leaf n ∷ [];
  events = record { same = no_leaf n; fault = false };
  parameters = record { leaf = replicate parameter_count (no_leaf n); fault = false };
  locations = record { count = 0; list = replicate 31 0; bad = false; fault = false };
  audio = record { number = 0; uri = n; fault = false };
}

-- nothing of a message of n bytes
abbrev pub nothing_read : ℕ → State
nothing_read n = record {
  alert = record {
    leaf = no_leaf n ∷ no_leaf n ∷ no_leaf n ∷ no_leaf n ∷ no_leaf n ∷ no_leaf n ∷ no_leaf n ∷ [];
    kept = Nothing;
    info = no_info n;
    fault = false;
  };
  info = no_info n;
  pair = no_leaf n ∷ no_leaf n ∷ [];
}

-- ---- the leaves of an alert by name

abbrev pub identifier_leaf : Alert → Leaf
identifier_leaf a = get_or a.leaf 0 (no_leaf 0)

abbrev pub sender_leaf : Alert → Leaf
sender_leaf a = get_or a.leaf 1 (no_leaf 0)

abbrev pub sent_leaf : Alert → Leaf
sent_leaf a = get_or a.leaf 2 (no_leaf 0)

abbrev pub status_leaf : Alert → Leaf
status_leaf a = get_or a.leaf 3 (no_leaf 0)

abbrev pub msg_type_leaf : Alert → Leaf
msg_type_leaf a = get_or a.leaf 4 (no_leaf 0)

abbrev pub scope_leaf : Alert → Leaf
scope_leaf a = get_or a.leaf 5 (no_leaf 0)

abbrev pub references_leaf : Alert → Leaf
references_leaf a = get_or a.leaf 6 (no_leaf 0)

-- ---- the leaves of an info by name

abbrev pub language_leaf : Info → Leaf
language_leaf i = get_or i.leaf 0 (no_leaf 0)

abbrev pub expires_leaf : Info → Leaf
expires_leaf i = get_or i.leaf 1 (no_leaf 0)

abbrev pub sender_name_leaf : Info → Leaf
sender_name_leaf i = get_or i.leaf 2 (no_leaf 0)

abbrev pub description_leaf : Info → Leaf
description_leaf i = get_or i.leaf 3 (no_leaf 0)

abbrev pub instruction_leaf : Info → Leaf
instruction_leaf i = get_or i.leaf 4 (no_leaf 0)

-- ---- the leaves of an info's parameters by name

abbrev pub eas_org_leaf : Info → Leaf
eas_org_leaf i = get_or i.parameters.leaf 0 (no_leaf 0)

abbrev pub eas_text_leaf : Info → Leaf
eas_text_leaf i = get_or i.parameters.leaf 1 (no_leaf 0)

abbrev pub must_carry_leaf : Info → Leaf
must_carry_leaf i = get_or i.parameters.leaf 2 (no_leaf 0)

abbrev pub broadcast_leaf : Info → Leaf
broadcast_leaf i = get_or i.parameters.leaf 3 (no_leaf 0)
