-- Which parts a header has.
use Rattle.std.specs.Prelude.{ℕ, ◌%◌, Bool, ◌||◌, not, List, [], ◌∷◌, length, take, drop, replicate, leb, ltb, eqb}
use Rattle.octets.specs.Bytes.{every, holds, between, is_capital}
use Rattle.parts.specs.declared.Originator.TheVariants.{Pep}
use Rattle.parts.specs.declared.Body.{Body}
use Rattle.std.proofs.lemmas.List.Edits.{sets}

-- EEE: three letters A to Z, known or not
abbrev pub event_tests : List ℕ → List Bool
event_tests e = eqb (length e) 3 ∷ every is_capital e ∷ []

unfoldable pub event_ok : List ℕ → Bool
event_ok e = every holds (event_tests e)

-- a location is six digits
unfoldable pub is_location : ℕ → Bool
is_location v = ltb v 1000000

unfoldable pub is_zero : ℕ → Bool
is_zero v = eqb v 0

-- 1 to 31 locations, and zeros behind them
abbrev pub locations_tests : ℕ → List ℕ → List Bool
locations_tests n list = between 1 31 n ∷ eqb (length list) 31 ∷ every is_location (take n list) ∷ every is_zero (drop n list) ∷ []

unfoldable pub locations_ok : ℕ → List ℕ → Bool
locations_ok n list = every holds (locations_tests n list)

-- TTTT 0015, 0030, 0045, or hours 01 to 99 with minutes 00 or 30: the period in minutes
unfoldable pub is_period : ℕ → Bool
is_period m = every holds (between 15 45 m ∷ eqb (m % 15) 0 ∷ []) || every holds (between 60 5970 m ∷ eqb (m % 30) 0 ∷ [])

-- day 001 to 366, time 0000 to 2359 with minutes to 59
abbrev pub times_tests : ℕ → ℕ → ℕ → ℕ → List Bool
times_tests period day hour minute = is_period period ∷ between 1 366 day ∷ leb hour 23 ∷ leb minute 59 ∷ []

unfoldable pub times_ok : ℕ → ℕ → ℕ → ℕ → Bool
times_ok period day hour minute = every holds (times_tests period day hour minute)

-- the parts of a header through the dash after JJJHHMM
abbrev pub body_tests : Body → List Bool
body_tests b = event_ok b.event ∷ locations_ok b.count b.locations ∷ times_ok b.period b.day b.hour b.minute ∷ []

unfoldable pub body_ok : Body → Bool
body_ok b = every holds (body_tests b)

-- LLLLLLLL: exactly 8 bytes, 32 to 126, not `-` or `+`
unfoldable pub is_station_byte : ℕ → Bool
is_station_byte b = every holds (between 32 126 b ∷ not (eqb b 45) ∷ not (eqb b 43) ∷ [])

abbrev pub station_tests : List ℕ → List Bool
station_tests t = eqb (length t) 8 ∷ every is_station_byte t ∷ []

unfoldable pub station_ok : List ℕ → Bool
station_ok t = every holds (station_tests t)

-- ---- zeros

abbrev pub no_locations : List ℕ
no_locations = replicate 31 0

-- zeros elsewhere: what stands beside a number that refuses, and a body that no header has
abbrev pub no_body : Body
no_body = record { originator = Pep; event = replicate 3 0; count = 0; locations = no_locations; period = 0; day = 0; hour = 0; minute = 0 }

abbrev pub no_station : List ℕ
no_station = replicate 8 0

-- the locations with zeros behind them
abbrev pub padded : List ℕ → List ℕ
padded ps = sets no_locations 0 ps
