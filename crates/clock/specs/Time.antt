-- Times: which bytes are one, and its instant in seconds since 2000 began in UTC.
use Rattle.std.specs.Prelude.{ℕ, ◌+◌, ◌*◌, List, [], ◌∷◌, Bool, true, false, length, ℤ, pos, negsuc, neg_ℤ, ◌-ℤ◌, ◌*ℤ◌, ltb, eqb}
use Rattle.octets.specs.Bytes.{pick, every, holds, one_of, byte_at, part}
use Rattle.octets.specs.Digits.{value, in_range}
use Rattle.clock.specs.Calendar.{leap, month_days, days_to, day_number}
use Rattle.std.specs.Prelude.{Option, Some, None}

-- a piece of a time: its value where every test holds
unfoldable pub reads : List Bool → ℕ → Option ℕ
reads tests v = pick (every holds tests) (Some v) None

-- ---- `YYYY-MM-DD`

-- `YYYY`, `MM` and `DD`
abbrev pub year : List ℕ → ℕ
year t = value (part t 0 4)

abbrev pub month : List ℕ → ℕ
month t = value (part t 5 2)

abbrev pub day : List ℕ → ℕ
day t = value (part t 8 2)

-- a real Gregorian date
abbrev pub date_tests : List ℕ → List Bool
date_tests t =
    in_range 0 9999 (part t 0 4)
    ∷ eqb (byte_at t 4) 45
    ∷ in_range 1 12 (part t 5 2)
    ∷ eqb (byte_at t 7) 45
    ∷ in_range 1 (month_days (leap (year t)) (month t)) (part t 8 2)
    ∷ []

-- the days before the date
abbrev pub date_of : List ℕ → ℕ
date_of t = day_number (year t) (month t) (day t)

-- ---- `hh:mm`, and `zh:zm`, from index at

-- hours to a bound, minutes to 59
abbrev pub minutes_tests : List ℕ → ℕ → ℕ → List Bool
minutes_tests t at most = in_range 0 most (part t at 2) ∷ eqb (byte_at t (at + 2)) 58 ∷ in_range 0 59 (part t (at + 3) 2) ∷ []

-- in minutes
abbrev pub minutes_of : List ℕ → ℕ → ℕ
minutes_of t at = value (part t at 2) * 60 + value (part t (at + 3) 2)

-- ---- `Thh:mm:ss`

-- minutes and seconds to 59, hours to 23
abbrev pub second_tests : List ℕ → List Bool
second_tests t = eqb (byte_at t 10) 84 ∷ every holds (minutes_tests t 11 23) ∷ eqb (byte_at t 16) 58 ∷ in_range 0 59 (part t 17 2) ∷ []

-- the second of the day
abbrev pub second_of : List ℕ → ℕ
second_of t = minutes_of t 11 * 60 + value (part t 17 2)

-- ---- then `+` or `-`, `zh:zm`

-- `+` or `-`
unfoldable pub is_sign : ℕ → Bool
is_sign b = one_of (43 ∷ 45 ∷ []) b

-- zh to 14, zm to 59; `Z` is refused, `+00:00` allowed
abbrev pub zone_tests : List ℕ → List Bool
zone_tests t = is_sign (byte_at t 19) ∷ every holds (minutes_tests t 20 14) ∷ []

-- minutes behind a sign
unfoldable pub signed : ℕ → ℕ → ℤ
signed sign m = pick (eqb sign 45) (neg_ℤ (pos m)) (pos m)

-- the signed offset, in minutes
abbrev pub offset : List ℕ → ℤ
offset t = signed (byte_at t 19) (minutes_of t 20)

-- ---- local time less the signed offset must lie in 2000 to 2099 UTC

-- seconds since 2000 began, of a second of the day before which so many days lie
unfoldable pub since2000 : ℕ → ℕ → ℤ
since2000 days second = pos (days * 86400 + second) -ℤ pos (days_to 2000 * 86400)

-- local time
abbrev pub local_time : List ℕ → ℤ
local_time t = since2000 (date_of t) (second_of t)

-- less the signed offset
unfoldable pub utc : ℤ → ℤ → ℤ
utc local minutes = local -ℤ (minutes *ℤ pos 60)

-- the seconds of 2000 to 2099
abbrev pub span : ℕ
span = 3155760000

-- must lie in 2000 to 2099 UTC
unfoldable pub in_span : ℤ → Option ℕ
in_span (pos n) = pick (ltb n span) (Some n) None
in_span (negsuc n) = None

-- ---- the whole

-- `YYYY-MM-DDThh:mm:ss` then `+` or `-`, `zh:zm`
abbrev pub time_tests : List ℕ → List Bool
time_tests t = eqb (length t) 25 ∷ every holds (date_tests t) ∷ every holds (second_tests t) ∷ every holds (zone_tests t) ∷ []

-- the instant of a time
unfoldable pub time_of : List ℕ → Option ℕ
time_of t = pick (every holds (time_tests t)) (in_span (utc (local_time t) (offset t))) None

-- whether there is one
abbrev pub is_time : Option ℕ → Bool
is_time (Some n) = true
is_time None = false

-- its seconds, and 0 where there is none
abbrev pub instant_in : Option ℕ → ℕ
instant_in (Some n) = n
instant_in None = 0
