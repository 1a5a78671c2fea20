-- The parameters that are read, as one table.
use Rattle.std.specs.Prelude.{ℕ, Bool, true, false, ◌&&◌, not, List, [], ◌∷◌, map, length}
use Prim.Native.String.{String}
use Rattle.octets.specs.Bytes.{pick, same}
use Rattle.octets.specs.Text.{bytes}
use Rattle.values.specs.Value.{small}

-- a parameter that is read: its name, whether in any letter case, and whether only a value that is not empty counts
pub record ReadParameter : Type 0 where
  pub name : String
  pub any_case : Bool
  pub non_empty : Bool

-- one of exactly this name, whatever its value
abbrev pub exactly : String → ReadParameter
exactly w = record { name = w; any_case = false; non_empty = false }

-- ---- of each the first value that counts, in message order, is read

abbrev pub eas_org : ReadParameter
eas_org = exactly "EAS-ORG"

abbrev pub eas_text : ReadParameter
eas_text = exactly "EASText"

abbrev pub eas_must_carry : ReadParameter
eas_must_carry = exactly "EAS-Must-Carry"

-- a parameter named `layer:AEA:2.0:broadcastText`, name in any letter case: the first non-empty value
abbrev pub broadcast_text : ReadParameter
broadcast_text = record { name = "layer:AEA:2.0:broadcastText"; any_case = true; non_empty = true }

abbrev pub read_parameters : List ReadParameter
read_parameters = eas_org ∷ eas_text ∷ eas_must_carry ∷ broadcast_text ∷ []

abbrev pub parameter_count : ℕ
parameter_count = length read_parameters

-- ---- which parameter is one of them

-- the name w is that of the row
abbrev pub has_name : ReadParameter → List ℕ → Bool
has_name r w = pick r.any_case (same (map small w) (map small (bytes r.name))) (same w (bytes r.name))

-- a parameter of the name w and the value v is one of the row's
abbrev pub is_of : ReadParameter → List ℕ → List ℕ → Bool
is_of r w v = pick r.non_empty (has_name r w && not (same v [])) (has_name r w)
