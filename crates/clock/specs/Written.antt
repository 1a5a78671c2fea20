-- How a header writes a period and a time.
use Rattle.std.specs.Prelude.{ℕ, ◌/◌, ◌%◌, List, ◌++◌}
use Rattle.octets.specs.Digits.{digits}

-- `TTTT`, hours and minutes of a period in minutes
unfoldable pub tttt : ℕ → List ℕ
tttt m = digits 2 (m / 60) ++ digits 2 (m % 60)

-- `JJJHHMM`, day of year, hour, minute
unfoldable pub jjjhhmm : ℕ → ℕ → ℕ → List ℕ
jjjhhmm day hour minute = digits 3 day ++ (digits 2 hour ++ digits 2 minute)
