-- A real Gregorian date, and its days counted from the first of January of the year 0.
use Rattle.std.specs.Prelude.{ℕ, zero, suc, ◌+◌, ◌-◌, ◌%◌, List, [], ◌∷◌, Bool, ◌&&◌, ◌||◌, not, take, get_or, eqb}
use Rattle.octets.specs.Bytes.{pick}

-- n is a multiple of d
unfoldable pub divides : ℕ → ℕ → Bool
divides d n = eqb (n % d) 0

-- every fourth year is a leap year, but of the hundredth years only every fourth
unfoldable pub leap : ℕ → Bool
leap y = divides 4 y && (not (divides 100 y) || divides 400 y)

-- the days of a year
unfoldable pub year_days : ℕ → ℕ
year_days y = pick (leap y) 366 365

-- the lengths of the months, January first, of a year that is a leap year or not
unfoldable pub months : Bool → List ℕ
months l = 31 ∷ pick l 29 28 ∷ 31 ∷ 30 ∷ 31 ∷ 30 ∷ 31 ∷ 31 ∷ 30 ∷ 31 ∷ 30 ∷ 31 ∷ []

-- the days of a month, 1 to 12
unfoldable pub month_days : Bool → ℕ → ℕ
month_days l m = get_or (months l) (m - 1) 0

-- all of a list together
unfoldable pub sum : List ℕ → ℕ
sum [] = 0
sum (n ∷ ns) = n + sum ns

-- the days of a year before a month
unfoldable pub days_before : Bool → ℕ → ℕ
days_before l m = sum (take (m - 1) (months l))

-- the days before a year
unfoldable pub days_to : ℕ → ℕ
days_to zero = 0
days_to (suc y) = days_to y + year_days y

-- the days before a date
unfoldable pub day_number : ℕ → ℕ → ℕ → ℕ
day_number y m d = days_to y + days_before (leap y) m + (d - 1)
