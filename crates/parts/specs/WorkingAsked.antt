-- Parts as a caller over numbers and bytes asks for them.
use Rattle.std.specs.Prelude.{ℕ, zero, suc, ◌+◌, ◌*◌, ◌/◌, Bool, List, [], ◌∷◌, ◌++◌, length, leb, eqb, Option, Some, None}
use Rattle.octets.specs.Bytes.{pick, part, every, holds}
use Rattle.octets.specs.Digits.{all_digits, value, digits}
use Rattle.parts.specs.Originator.{is_known, known, numbered}
use Rattle.parts.specs.Parts.{no_body, no_station, padded}
use Rattle.parts.specs.declared.Body.{Body}
use Rattle.parts.specs.declared.Parts.{Parts}

-- six digits for each location, one behind the other
unfoldable pub sixes_bytes : List ℕ → List ℕ
sixes_bytes [] = []
sixes_bytes (v ∷ vs) = digits 6 v ++ sixes_bytes vs

-- n locations read so from index at
unfoldable pub sixes : ℕ → List ℕ → ℕ → List ℕ
sixes zero s at = []
sixes (suc n) s at = value (part s at 6) ∷ sixes n s (at + 6)

-- at most 31 locations of six digits, and nothing else
abbrev pub sixes_tests : List ℕ → List Bool
sixes_tests s = leb (length s) 186 ∷ eqb (length s) (6 * (length s / 6)) ∷ all_digits s ∷ []

unfoldable pub sixes_ok : List ℕ → Bool
sixes_ok s = every holds (sixes_tests s)

unfoldable pub sixes_read : List ℕ → Option (List ℕ)
sixes_read s = pick (sixes_ok s) (Some (padded (sixes (length s / 6) s 0))) None

-- a body where the originator has a number, the event three bytes and each location six digits; else zeros, which no header has
abbrev pub asked_tests : ℕ → List ℕ → List ℕ → List Bool
asked_tests originator event locations = is_known (numbered originator) ∷ eqb (length event) 3 ∷ sixes_ok locations ∷ []

unfoldable pub asked_ok : ℕ → List ℕ → List ℕ → Bool
asked_ok originator event locations = every holds (asked_tests originator event locations)

unfoldable pub asked_body : ℕ → List ℕ → List ℕ → ℕ → ℕ → ℕ → ℕ → Body
asked_body originator event locations period day hour minute =
    pick (asked_ok originator event locations)
    (record {
      originator = known (numbered originator);
      event = event;
      count = length locations / 6;
      locations = padded (sixes (length locations / 6) locations 0);
      period = period;
      day = day;
      hour = hour;
      minute = minute;
    })
    no_body

-- the station where it has 8 bytes; else zeros, which no station has
unfoldable pub asked_station : List ℕ → List ℕ
asked_station t = pick (eqb (length t) 8) t no_station

unfoldable pub asked_parts : ℕ → List ℕ → List ℕ → ℕ → ℕ → ℕ → ℕ → List ℕ → Parts
asked_parts originator event locations period day hour minute station = record {
  body = asked_body originator event locations period day hour minute;
  station = asked_station station;
}
