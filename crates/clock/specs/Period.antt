-- TTTT: the minutes of a period, with n the seconds from sent to expires.
use Rattle.std.specs.Prelude.{ℕ, ◌+◌, ◌-◌, ◌*◌, ◌/◌, leb}
use Rattle.octets.specs.Bytes.{pick}

-- n/d rounded up
unfoldable pub up : ℕ → ℕ → ℕ
up n d = (n + (d - 1)) / d

-- n, at most so many
unfoldable pub at_most : ℕ → ℕ → ℕ
at_most most n = pick (leb n most) n most

-- up to 2,700, n/900 rounded up, times 15 minutes; above, n/1,800 rounded up, times 30 minutes, at most 99 hours 30
unfoldable pub period_of : ℕ → ℕ
period_of n = pick (leb n 2700) (up n 900 * 15) (at_most (99 * 60 + 30) (up n 1800 * 30))
