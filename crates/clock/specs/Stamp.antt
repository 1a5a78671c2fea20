-- JJJHHMM: day of year, hour, minute of an instant in UTC; its year, and the way back to the instant.
use Rattle.std.specs.Prelude.{ℕ, zero, suc, ◌+◌, ◌-◌, ◌*◌, ◌/◌, ◌%◌, List, leb}
use Rattle.octets.specs.Bytes.{pick}
use Rattle.clock.specs.Calendar.{days_to}
use Rattle.clock.specs.Written.{jjjhhmm}
use Rattle.clock.specs.declared.Stamp.{Stamp}
use Rattle.clock.specs.declared.YearDay.{YearDay}

-- the last of the years 2000 to 2000 + k that had begun on the day that is d days after 2000 began
unfoldable pub begun : ℕ → ℕ → ℕ
begun zero d = 2000
begun (suc k) d = pick (leb (days_to (2000 + suc k)) (days_to 2000 + d)) (2000 + suc k) (begun k d)

-- the year of that day
unfoldable pub year_of : ℕ → ℕ
year_of d = begun 99 d

-- day of year, the first being 1
unfoldable pub day_of : ℕ → ℕ
day_of d = days_to 2000 + d - days_to (year_of d) + 1

-- the year and the day of year of that day
unfoldable pub year_day_of : ℕ → YearDay
year_day_of d = record { year = year_of d; day = day_of d }

-- day of year, hour, minute in UTC, seconds dropped
unfoldable pub stamp_of : ℕ → Stamp
stamp_of n = record {
  year = year_of (n / 86400);
  day = day_of (n / 86400);
  hour = n % 86400 / 3600;
  minute = n % 3600 / 60;
}

-- JJJHHMM of an instant
abbrev pub stamped : ℕ → List ℕ
stamped n = jjjhhmm (stamp_of n).day (stamp_of n).hour (stamp_of n).minute

-- the instant of a second of a day of a year
unfoldable pub instant_of : ℕ → ℕ → ℕ → ℕ
instant_of y j s = (days_to y + (j - 1) - days_to 2000) * 86400 + s
