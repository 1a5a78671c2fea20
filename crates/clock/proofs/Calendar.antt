-- The calendar: the days before a month by the code's table, the days before a year in closed form, and the years 2000 to 2099.
--     before-is, month-is     the table, and a month from it to the next
--     days-to-is              the days before any year
--     days-to-after           the same from 2000 to 2100, where every fourth year is a leap year
use mathlib.Core.Path.{◌≡◌, refl, sym, ap, ◌∙◌}
use mathlib.Core.List.{[], ◌∷◌}
use mathlib.Core.Logic.{◌≢◌}
use mathlib.Core.Bool.{Bool, true, false, ◌&&◌, ◌||◌, not, true≢false}
use Prim.Native.Nat.{ℕ, zero, suc, ◌+◌, ◌-◌, ◌*◌, ◌/◌, ◌%◌, ◌≤◌, ◌<◌}
use native.Mathlib.Omega.{arith}
use native.Mathlib.Nat.{zero-add, add-zero, suc-add, add-suc, suc-mul, mod-lt, div-add-mod', le_refl}
use native.Mathlib.Numerals.{add-one}
use borrow.Author.Tests.{eq-eqb, eqb-true, eqb-false, leb-true}
use lib.Arith.{digits_div}
use lib.ListN.{get_or}
use lib.Dec.{leb, eqb, lit<}
use Rattle.octets.specs.Bytes.{pick}
use Rattle.octets.proofs.Tests.{below, at_each, from_one, either_way}
use Rattle.clock.specs.Calendar.{divides, leap, year_days, months, sum, month_days, days_before, days_to}
use Rattle.clock.specs.Period.{up}

-- ---- months: each law is a test that computes at each of the months, in both kinds of year

both-kinds : (f : Bool → ℕ → Bool) (n : ℕ) → below (λ (k : ℕ). f true (suc k)) n ≡ true → below (λ (k : ℕ). f false (suc k)) n ≡ true → (l : Bool) (m : ℕ) → 1 ≤ m → m ≤ n → f l m ≡ true
both-kinds f n p q true m h k = from_one (f true) n p m h k
both-kinds f n p q false m h k = from_one (f false) n q m h k

-- the days before a month of a year that is no leap year, as the code has them
abbrev pub plain : ℕ → ℕ
plain m = get_or (0 ∷ 31 ∷ 59 ∷ 90 ∷ 120 ∷ 151 ∷ 181 ∷ 212 ∷ 243 ∷ 273 ∷ 304 ∷ 334 ∷ 365 ∷ []) (m - 1) 0

pub plain-most : (m : ℕ) → 1 ≤ m → m ≤ 13 → plain m ≤ 365
plain-most m h k = leb-true _ _ (from_one (λ (m : ℕ). leb (plain m) 365) 13 refl m h k)

-- one more after February of a leap year
pub before-is : (l : Bool) (m : ℕ) → 1 ≤ m → m ≤ 13 → days_before l m ≡ pick (leb 3 m && l) (plain m + 1) (plain m)
unfolding days_before months sum
before-is l m h k = eqb-true _ _ (both-kinds (λ l m. eqb (days_before l m) (pick (leb 3 m && l) (plain m + 1) (plain m))) 13 refl refl l m h k)

-- the days of a month are those from it to the next
pub month-is : (l : Bool) (m : ℕ) → 1 ≤ m → m ≤ 12 → days_before l (m + 1) ≡ days_before l m + month_days l m
unfolding days_before months sum month_days
month-is l m h k = eqb-true _ _ (both-kinds (λ l m. eqb (days_before l (m + 1)) (days_before l m + month_days l m)) 12 refl refl l m h k)

-- no more before a month than in the year
before-most : (l : Bool) (m : ℕ) → 1 ≤ m → m ≤ 13 → days_before l m ≤ pick l 366 365
unfolding days_before months sum
before-most l m h k = leb-true _ _ (both-kinds (λ l m. leb (days_before l m) (pick l 366 365)) 13 refl refl l m h k)

-- a day of a month is one of its year
pub day-in-year : (y m d : ℕ) → 1 ≤ m → m ≤ 12 → d ≤ month_days (leap y) m → days_before (leap y) m + d ≤ year_days y
unfolding year_days
day-in-year y m d h k e = omega (arith, month-is (leap y) m h k, before-most (leap y) (m + 1) (omega arith) (omega arith))

pub year-days-most : (y : ℕ) → year_days y ≤ 366
unfolding year_days
year-days-most y = either_way (λ (n : ℕ). n ≤ 366) (leap y) _ _ (λ e. omega arith) (λ e. omega arith)

-- ---- years

-- the multiples of d below a number: one more behind a multiple
up_step : (d y : ℕ) → 0 < d → up (suc y) d ≡ up y d + pick (divides d y) 1 0
unfolding up divides
up_step d y h = by (eqb (y % d) 0) refl
  where
    parts : y / d * d + y % d ≡ y
    parts = div-add-mod' y d

    low : y % d < d
    low = mod-lt y h

    is : (n q r : ℕ) → n ≡ q * d + r → r < d → n / d ≡ q
    is n q r e l = ap (λ (k : ℕ). k / d) e ∙ digits_div q l

    next : (r : ℕ) (n : ℕ) → n ≡ y / d * d + d + r → r < d → n / d ≡ y / d + 1
    next r n e l = is n (suc (y / d)) r (e ∙ ap (λ (k : ℕ). k + r) (sym (suc-mul (y / d) d))) l ∙ sym (add-one (y / d))

    by : (b : Bool) → eqb (y % d) 0 ≡ b → (suc y + (d - 1)) / d ≡ (y + (d - 1)) / d + pick b 1 0
    by true e =
        let z : y % d ≡ 0 = eqb-true (y % d) 0 e in
        next (y % d) (suc y + (d - 1)) (omega (arith, parts, low)) low ∙ ap (λ (k : ℕ). k + 1) (sym (is (y + (d - 1)) (y / d) (d - 1) (omega (arith, parts, low)) (omega (arith, parts, low))))
    by false e =
        let z : y % d ≢ 0 = eqb-false (y % d) 0 e in
        next (y % d) (suc y + (d - 1)) (omega (arith, parts, low)) low ∙ sym (next (y % d - 1) (y + (d - 1)) (omega (arith, parts, low)) (omega (arith, parts, low))) ∙ sym (add-zero ((y + (d - 1)) / d))

-- of 4, 100 and 400 each divides the next, and a year is a leap year by them
year-adds : (a b c : Bool) → (c ≡ true → b ≡ true) → (b ≡ true → a ≡ true) → pick (a && (not b || c)) 366 365 + pick b 1 0 ≡ 365 + pick a 1 0 + pick c 1 0
year-adds true true true p q = refl
year-adds true true false p q = refl
year-adds true false false p q = refl
year-adds false false false p q = refl
year-adds true false true p q = absurd (true≢false (sym (p refl)))
year-adds false true c p q = absurd (true≢false (sym (q refl)))
year-adds false false true p q = absurd (true≢false (sym (p refl)))

year-step : (y : ℕ) → year_days y + pick (divides 100 y) 1 0 ≡ 365 + pick (divides 4 y) 1 0 + pick (divides 400 y) 1 0
unfolding year_days leap divides
year-step y = year-adds (eqb (y % 4) 0) (eqb (y % 100) 0) (eqb (y % 400) 0) (λ e. eq-eqb (y % 100) 0 (hundred (eqb-true (y % 400) 0 e))) (λ e. eq-eqb (y % 4) 0 (four (eqb-true (y % 100) 0 e)))
  where
    hundred : y % 400 ≡ 0 → y % 100 ≡ 0
    hundred h = omega arith

    four : y % 100 ≡ 0 → y % 4 ≡ 0
    four h = omega arith

none : days_to 0 + up 0 100 ≡ 0 * 365 + up 0 4 + up 0 400
unfolding days_to up
none = refl

-- the closed form
pub days-to-is : (y : ℕ) → days_to y + up y 100 ≡ y * 365 + up y 4 + up y 400
unfolding days_to
days-to-is zero = none
days-to-is (suc y) = omega (arith, days-to-is y, year-step y, up_step 4 y (lit< tt), up_step 100 y (lit< tt), up_step 400 y (lit< tt))

pub days-to-next : (y : ℕ) → days_to (suc y) ≡ days_to y + year_days y
unfolding days_to
days-to-next y = refl

pub days-to-mono : (a b : ℕ) → a ≤ b → days_to a ≤ days_to b
days-to-mono a b h = let e : b - a + a ≡ b = omega arith in rw e at (from (b - a))
  where
    from : (n : ℕ) → days_to a ≤ days_to (n + a)
    from zero = rw zero-add (le_refl (days_to a))
    from (suc n) = rw suc-add (omega (arith, from n, days-to-next (n + a)))

pub days-to-most : (y : ℕ) → y ≤ 9999 → days_to y ≤ 3652060
unfolding up
days-to-most y h = omega (arith, days-to-mono y 9999 h, days-to-is 9999)

pub days-to-2000 : days_to 2000 ≡ 730485
unfolding up
days-to-2000 = omega (arith, days-to-is 2000)

-- every fourth year is a leap year, 2000 too
pub year-long : (k : ℕ) → k < 100 → year_days (2000 + k) + (k + 3) / 4 ≡ 365 + (suc k + 3) / 4
unfolding year_days leap divides
year-long k h = eqb-true _ _ (at_each (λ (k : ℕ). eqb (year_days (2000 + k) + (k + 3) / 4) (365 + (suc k + 3) / 4)) 100 refl k h)

pub days-to-after : (k : ℕ) → k ≤ 100 → days_to (2000 + k) ≡ 730485 + (k * 365 + (k + 3) / 4)
days-to-after zero h = days-to-2000
days-to-after (suc k) h = rw (add-suc 2000 k, days-to-next) (omega (arith, days-to-after k (omega arith), year-long k h))

pub days-to-low : (y : ℕ) → 2000 ≤ y → 730485 ≤ days_to y
days-to-low y h = omega (arith, days-to-mono 2000 y h, days-to-2000)

pub days-to-high : (y : ℕ) → y ≤ 2099 → days_to y ≤ 766645
days-to-high y h = omega (arith, days-to-mono y 2099 h, days-to-after 99 (omega arith))
