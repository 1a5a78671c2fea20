-- The pieces of a time: a refusal from the one test that fails, a value from all that hold, and how large the values are.
--     read_no, read-yes, read_is, read-not     a piece from its tests, and its tests from what was read
--     date-under, second-under, zone-under     how large a value that was read is
use mathlib.Core.Path.{◌≡◌, sym, ap, ◌∙◌}
use mathlib.Core.List.{List}
use mathlib.Core.Bool.{Bool, true, false, and-true}
use Prim.Native.Nat.{ℕ, ◌+◌, ◌-◌, ◌*◌, ◌≤◌, ◌<◌}
use native.Mathlib.Omega.{arith}
use borrow.Author.Tests.{eq-eqb}
use lib.ListN.{get_or}
use Rattle.octets.specs.Bytes.{every, holds, byte_at, part}
use Rattle.octets.specs.Digits.{in_range, ranged_of}
use Rattle.std.specs.Prelude.{Some, None}
use Rattle.octets.proofs.Tests.{Each, every_of, each_of, one-fails, picked, passed_over}
use Rattle.octets.proofs.Numbers.{picked_value, picked-bad, ranged-yes, ranged-no, range-low, range-high, ranged-low-of, ranged-high-of}
use Rattle.clock.specs.Calendar.{leap, month_days, days_to, days_before, day_number}
use Rattle.clock.specs.Time.{reads, year, month, day, date_tests, date_of, minutes_tests, minutes_of, second_tests, second_of, is_sign, zone_tests}
use Rattle.clock.proofs.Calendar.{days-to-most, year-days-most, day-in-year}

module _ (tests : List Bool) (v : ℕ) where
  pub read_no : (i : ℕ) → get_or tests i true ≡ false → reads tests v ≡ None
  unfolding reads
  read_no i h = passed_over (every holds tests) (Some v) None (one-fails i tests h)

  read-yes : (n : ℕ) → Each tests → v ≡ n → reads tests v ≡ Some n
  unfolding reads
  read-yes n h e = picked (every holds tests) (Some v) None (every_of tests h) ∙ ap Some e

  pub read_is : (n : ℕ) → reads tests v ≡ Some n → (every holds tests ≡ true) × (v ≡ n)
  unfolding reads
  read_is n h = picked_value (every holds tests) v n h

  pub read-not : reads tests v ≡ None → every holds tests ≡ false
  unfolding reads
  read-not h = picked-bad (every holds tests) v h

-- ---- the date

-- what the code has read before the day: the year, the month, whether the year is a leap year, and the days of the month
pub record Month (t : List ℕ) (y m : ℕ) (l : Bool) (most : ℕ) : Type 0 where
  pub year-read : ranged_of 0 9999 (part t 0 4) ≡ Some y
  pub dash : byte_at t 4 ≡ 45
  pub month-read : ranged_of 1 12 (part t 5 2) ≡ Some m
  pub dash-2 : byte_at t 7 ≡ 45
  pub leap-is : l ≡ leap y
  pub most-is : most ≡ month_days l m

module _ {t : List ℕ} {y m : ℕ} {l : Bool} {most : ℕ} (g : Month t y m l most) where
  pub year-most : y ≤ 9999
  year-most = ranged-high-of 0 9999 y (part t 0 4) g.year-read

  pub month-low : 1 ≤ m
  month-low = ranged-low-of 1 12 m (part t 5 2) g.month-read

  pub month-most : m ≤ 12
  month-most = ranged-high-of 1 12 m (part t 5 2) g.month-read

  length-is : month_days (leap (year t)) (month t) ≡ most
  length-is = rw ((ranged-yes 0 9999 y (part t 0 4) g.year-read).1, (ranged-yes 1 12 m (part t 5 2) g.month-read).1, ← g.leap-is) (sym g.most-is)

  pub day-no : ranged_of 1 most (part t 8 2) ≡ None → reads (date_tests t) (date_of t) ≡ None
  day-no r = read_no (date_tests t) (date_of t) 4 (rw length-is (ranged-no 1 most (part t 8 2) r))

  -- the day number: it fits, and it is that of the definition
  pub day-fits : (d a b : ℕ) → ranged_of 1 most (part t 8 2) ≡ Some d → a ≡ days_to y → b ≡ days_before l m → a + b + d ≤ 3652426
  day-fits d a b r e f =
      let e' : l ≡ leap y = g.leap-is in
      let k : d ≤ month_days (leap y) m = rw (← e', ← g.most-is) (ranged-high-of 1 most d (part t 8 2) r) in
      let f' : b ≡ days_before (leap y) m = f ∙ ap (λ (x : Bool). days_before x m) e' in
      omega (arith, days-to-most y year-most, day-in-year y m d month-low month-most k, year-days-most y)

  pub date-yes : (d a b : ℕ) → ranged_of 1 most (part t 8 2) ≡ Some d → a ≡ days_to y → b ≡ days_before l m → reads (date_tests t) (date_of t) ≡ Some (a + b + (d - 1))
  unfolding day_number
  date-yes d a b r e f =
      let p = ranged-yes 0 9999 y (part t 0 4) g.year-read in
      let q = ranged-yes 1 12 m (part t 5 2) g.month-read in
      let s = ranged-yes 1 most d (part t 8 2) r in
      let z : in_range 1 (month_days (leap (year t)) (month t)) (part t 8 2) ≡ true = rw length-is s.0 in
      read-yes (date_tests t) (date_of t) _ (p.0, (eq-eqb _ _ g.dash, (q.0, (eq-eqb _ _ g.dash-2, (z, tt))))) (rw (p.1, q.1, s.1, e, f, g.leap-is))

pub date-under : (t : List ℕ) (n : ℕ) → reads (date_tests t) (date_of t) ≡ Some n → n ≤ 3652426
unfolding day_number
date-under t n h =
    let r = read_is (date_tests t) (date_of t) n h in
    let e = each_of (date_tests t) r.0 in
    let m = e.1.1.0 in
    let y = days-to-most (year t) (range-high 0 9999 (part t 0 4) e.0) in
    let d = day-in-year (year t) (month t) (day t) (range-low 1 12 (part t 5 2) m) (range-high 1 12 (part t 5 2) m) (range-high 1 _ (part t 8 2) e.1.1.1.1.0) in
    omega (arith, r.1, y, d, year-days-most (year t))

-- ---- hours and minutes

-- what the code has read
pub record Hours (t : List ℕ) (at most h m : ℕ) : Type 0 where
  pub hour-read : ranged_of 0 most (part t at 2) ≡ Some h
  pub colon : byte_at t (at + 2) ≡ 58
  pub minute-read : ranged_of 0 59 (part t (at + 3) 2) ≡ Some m

module _ {t : List ℕ} {at most h m : ℕ} (g : Hours t at most h m) where
  pub hours-most : h ≤ most
  hours-most = ranged-high-of 0 most h (part t at 2) g.hour-read

  pub minute-most : m ≤ 59
  minute-most = ranged-high-of 0 59 m (part t (at + 3) 2) g.minute-read

  pub minutes-yes : reads (minutes_tests t at most) (minutes_of t at) ≡ Some (h * 60 + m)
  minutes-yes =
      let p = ranged-yes 0 most h (part t at 2) g.hour-read in
      let q = ranged-yes 0 59 m (part t (at + 3) 2) g.minute-read in
      read-yes (minutes_tests t at most) (minutes_of t at) _ (p.0, (eq-eqb _ _ g.colon, (q.0, tt))) (rw (p.1, q.1))

minutes-most : (t : List ℕ) (at most : ℕ) → every holds (minutes_tests t at most) ≡ true → minutes_of t at ≤ most * 60 + 59
minutes-most t at most h =
    let e = each_of (minutes_tests t at most) h in
    omega (arith, range-high 0 most (part t at 2) e.0, range-high 0 59 (part t (at + 3) 2) e.1.1.0)

minutes-under : (t : List ℕ) (at most m : ℕ) → reads (minutes_tests t at most) (minutes_of t at) ≡ Some m → m ≤ most * 60 + 59
minutes-under t at most m h = let a = read_is (minutes_tests t at most) (minutes_of t at) m h in omega (arith, minutes-most t at most a.0, a.1)

-- ---- the second of the day

-- what the code has read
pub record Seconds (t : List ℕ) (m s : ℕ) : Type 0 where
  pub letter : byte_at t 10 ≡ 84
  pub minutes-read : reads (minutes_tests t 11 23) (minutes_of t 11) ≡ Some m
  pub colon : byte_at t 16 ≡ 58
  pub second-read : ranged_of 0 59 (part t 17 2) ≡ Some s

module _ {t : List ℕ} {m s : ℕ} (g : Seconds t m s) where
  pub second-yes : reads (second_tests t) (second_of t) ≡ Some (m * 60 + s)
  second-yes =
      let p = read_is (minutes_tests t 11 23) (minutes_of t 11) m g.minutes-read in
      let q = ranged-yes 0 59 s (part t 17 2) g.second-read in
      read-yes (second_tests t) (second_of t) _ (eq-eqb _ _ g.letter, (p.0, (eq-eqb _ _ g.colon, (q.0, tt)))) (rw (p.1, q.1))

  pub second_fits : m * 60 + s < 86400
  second_fits = omega (arith, minutes-under t 11 23 m g.minutes-read, ranged-high-of 0 59 s (part t 17 2) g.second-read)

pub second-under : (t : List ℕ) (n : ℕ) → reads (second_tests t) (second_of t) ≡ Some n → n < 86400
second-under t n h =
    let r = read_is (second_tests t) (second_of t) n h in
    let e = each_of (second_tests t) r.0 in
    omega (arith, r.1, minutes-most t 11 23 e.1.0, range-high 0 59 (part t 17 2) e.1.1.1.0)

-- ---- the minutes behind the sign

-- where there is a sign, what is behind it decides
pub zone-is : (t : List ℕ) → is_sign (byte_at t 19) ≡ true → reads (zone_tests t) (minutes_of t 20) ≡ reads (minutes_tests t 20 14) (minutes_of t 20)
unfolding reads every
zone-is t h = rw (h, and-true (every holds (minutes_tests t 20 14)))

pub zone-under : (t : List ℕ) (m : ℕ) → reads (zone_tests t) (minutes_of t 20) ≡ Some m → m ≤ 899
zone-under t m h =
    let r = read_is (zone_tests t) (minutes_of t 20) m h in
    let e = each_of (zone_tests t) r.0 in
    omega (arith, r.1, minutes-most t 20 14 e.1.0)
