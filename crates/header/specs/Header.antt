-- The header, `ZCZC-ORG-EEE-PSSCCC+TTTT-JJJHHMM-LLLLLLLL-`: read, and written into a lent output.
use Rattle.std.specs.Prelude.{ℕ, ◌+◌, ◌-◌, Bool, List, [], ◌∷◌, ◌++◌, length, take, leb, eqb, Option, Some, None}
use Rattle.std.proofs.lemmas.List.Edits.{sets}
use Rattle.octets.specs.Bytes.{pick, every, holds, byte_at, part}
use Rattle.parts.specs.Parts.{body_ok, station_ok, no_body, no_station}
use Rattle.parts.specs.declared.Parts.{Parts}
use Rattle.header.specs.Body.{dash, body_bytes, body_form, body_of}
use Rattle.header.specs.declared.Read.{Read}
use Rattle.header.specs.declared.Written.{Written}

-- the body, then LLLLLLLL and a dash
unfoldable pub header_bytes : Parts → List ℕ
header_bytes p = body_bytes p.body ++ (p.station ++ (dash ∷ []))

-- ---- reading

-- where the station begins
abbrev pub station_at : List ℕ → ℕ
station_at s = length s - 9

-- a body, LLLLLLLL and a dash
abbrev pub header_tests : List ℕ → List Bool
header_tests s = body_form (take (station_at s) s) ∷ station_ok (part s (station_at s) 8) ∷ eqb (byte_at s (station_at s + 8)) dash ∷ []

unfoldable pub header_form : List ℕ → Bool
header_form s = every holds (header_tests s)

unfoldable pub parts_in : List ℕ → Parts
parts_in s = record { body = body_of (take (station_at s) s); station = part s (station_at s) 8 }

-- the parts, where the bytes are a header
unfoldable pub parts_read : List ℕ → Option Parts
parts_read s = pick (header_form s) (Some (parts_in s)) None

-- 17: header unreadable; zeros elsewhere
abbrev pub refusal : Read
refusal = record { number = 17; parts = record { body = no_body; station = no_station } }

unfoldable pub read_of : List ℕ → Read
read_of s = pick (header_form s) (record { number = 0; parts = parts_in s }) refusal

-- ---- writing into a lent output d

-- 2: lent output short, header 252; 3: station; 17: parts that no header has
unfoldable pub write_number : ℕ → Parts → ℕ
write_number room p = pick (leb 252 room) (pick (station_ok p.station) (pick (body_ok p.body) 0 17) 3) 2

-- the number, and how many bytes were written
unfoldable pub write_of : List ℕ → Parts → Written
write_of d p = record { number = write_number (length d) p; len = pick (eqb (write_number (length d) p) 0) (length (header_bytes p)) 0 }

-- the output afterwards: a refusal touches nothing, and bytes past the answer stay
unfoldable pub write_bytes : List ℕ → Parts → List ℕ
write_bytes d p = pick (eqb (write_number (length d) p) 0) (sets d 0 (header_bytes p)) d
