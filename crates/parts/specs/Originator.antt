-- The originator: its three bytes, and its number where a caller asks by number.
use Rattle.std.specs.Prelude.{ℕ, Bool, true, false, List, eqb}
use Rattle.octets.specs.Bytes.{pick, same}
use Rattle.octets.specs.Text.{bytes}
use Rattle.parts.specs.declared.Originator.{Originator}
use Rattle.parts.specs.declared.Originator.TheVariants.{Pep, Eas, Wxr, Civ}
use Rattle.std.specs.Prelude.{Option, Some, None}

-- ORG: exactly PEP, EAS, WXR or CIV
unfoldable pub originator_bytes : Originator → List ℕ
originator_bytes Pep = bytes "PEP"
originator_bytes Eas = bytes "EAS"
originator_bytes Wxr = bytes "WXR"
originator_bytes Civ = bytes "CIV"

-- the originator that the bytes name, if they name one
unfoldable pub originator_of : List ℕ → Option Originator
originator_of b =
    pick (same b (originator_bytes Pep)) (Some Pep)
    (pick (same b (originator_bytes Eas)) (Some Eas)
    (pick (same b (originator_bytes Wxr)) (Some Wxr)
    (pick (same b (originator_bytes Civ)) (Some Civ)
    None)))

abbrev pub is_known : Option Originator → Bool
is_known (Some o) = true
is_known None = false

-- the originator that is known, and PEP where none is
abbrev pub known : Option Originator → Originator
known (Some o) = o
known None = Pep

-- ---- by number

-- 1 PEP, 2 EAS, 3 WXR, 4 CIV
abbrev pub originator_number : Originator → ℕ
originator_number Pep = 1
originator_number Eas = 2
originator_number Wxr = 3
originator_number Civ = 4

-- the originator of a number, if it has one
unfoldable pub numbered : ℕ → Option Originator
numbered n = pick (eqb n 1) (Some Pep) (pick (eqb n 2) (Some Eas) (pick (eqb n 3) (Some Wxr) (pick (eqb n 4) (Some Civ) None)))
