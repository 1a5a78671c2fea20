-- The year and the day of an instant: when they are right, their bounds, and the way back.
--     early, late                     the year and the day by cycles of four years
--     stamp-fits                      a stamp's parts are those of a header, its year one of 2000 to 2099
--     there_and_back, back-and-there  an instant from its year, day and second, and these from their instant
--     minute-back                     the instant of a stamp, its seconds dropped
use mathlib.Core.Path.{◌≡◌, ◌∙◌}
use Prim.Native.Nat.{ℕ, zero, suc, ◌+◌, ◌-◌, ◌*◌, ◌/◌, ◌%◌, ◌≤◌, ◌<◌}
use native.Mathlib.Omega.{arith}
use native.Mathlib.Decide.{dec_le, dec_lt}
use native.Mathlib.Nat.{add-suc}
use borrow.Author.Tests.{le-leb, lt-leb}
use Rattle.clock.specs.Calendar.{year_days, days_to}
use Rattle.clock.specs.Time.{span}
use Rattle.clock.specs.Stamp.{begun, year_of, day_of, year_day_of, stamp_of, instant_of}
use Rattle.clock.specs.declared.Stamp.{Stamp}
use Rattle.clock.proofs.Calendar.{year-days-most, year-long, days-to-mono, days-to-next, days-to-2000, days-to-after}

-- the year that has begun and whose next has not
begun-step : (k n d : ℕ) → Dec (k ≤ n) → k ≤ suc n → days_to (2000 + k) ≤ days_to 2000 + d → days_to 2000 + d < days_to (2000 + suc k) → (k ≤ n → begun n d ≡ 2000 + k) → begun (suc n) d ≡ 2000 + k
unfolding begun
begun-step k n d (yes l) h lo hi r =
    let m = days-to-mono (2000 + suc k) (2000 + suc n) (omega arith) in
    rw (lt-leb (days_to (2000 + suc n)) (days_to 2000 + d) (omega arith)) (r l)
begun-step k n d (no l) h lo hi r =
    let e : k ≡ suc n = omega arith in
    let lo' : days_to (2000 + suc n) ≤ days_to 2000 + d = rw (← e) lo in
    rw (le-leb (days_to (2000 + suc n)) (days_to 2000 + d) lo', e)

begun-is : (k n d : ℕ) → k ≤ n → days_to (2000 + k) ≤ days_to 2000 + d → days_to 2000 + d < days_to (2000 + suc k) → begun n d ≡ 2000 + k
unfolding begun
begun-is k zero d h lo hi = omega arith
begun-is k (suc n) d h lo hi = begun-step k n d (dec_le k n) h lo hi (λ l. begun-is k n d l lo hi)

-- ---- where a day lies: k years and j days after 2000 began

pub record Placed (d k j : ℕ) : Type 0 where
  pub few : k ≤ 99
  pub short : j < year_days (2000 + k)
  pub is : days_to 2000 + d ≡ days_to (2000 + k) + j

year-is : (d k j : ℕ) → Placed d k j → year_of d ≡ 2000 + k
unfolding year_of
year-is d k j p = begun-is k 99 d p.few (omega arith) (rw add-suc (omega (arith, days-to-next (2000 + k))))

day-is : (d k j : ℕ) → Placed d k j → day_of d ≡ j + 1
unfolding day_of
day-is d k j p = rw (year-is d k j p) (omega arith)

pub year-day-is : (d k j y i : ℕ) → Placed d k j → y ≡ 2000 + k → i ≡ j + 1 → record { year = y; day = i } ≡ year_day_of d
unfolding year_day_of
year-day-is d k j y i p e f = rw (e, f, year-is d k j p, day-is d k j p)

-- the days of 2000 to 2099, and their seconds
pub span-is : (days_to 2100 - days_to 2000) * 86400 ≡ span
span-is = rw (days-to-2000, days-to-after 100 (omega arith))

placed-few : (d k j : ℕ) → Placed d k j → d < 36525
placed-few d k j p =
    let m = days-to-mono (suc (2000 + k)) 2100 (omega (arith, p.few)) in
    omega (arith, p.is, p.short, days-to-next (2000 + k), days-to-2000, days-to-after 100 (omega arith))

-- ---- the same by cycles of four years, as the code goes

-- the first year of four, of 366 days
first-year : (d q j : ℕ) → q ≤ 24 → j < 366 → d ≡ q * 1461 + j → Placed d (q * 4) j
first-year d q j h l e = record {
  few = omega arith;
  short = omega (arith, year-long (q * 4) (omega arith));
  is = omega (arith, days-to-2000, days-to-after (q * 4) (omega arith));
}

-- the three after it
later-year : (d q i j : ℕ) → q ≤ 24 → i ≤ 2 → j < 365 → d ≡ q * 1461 + 366 + i * 365 + j → Placed d (q * 4 + 1 + i) j
later-year d q i j h b l e = record {
  few = omega arith;
  short = omega (arith, year-long (q * 4 + 1 + i) (omega arith));
  is = omega (arith, days-to-2000, days-to-after (q * 4 + 1 + i) (omega arith));
}

pub early : (d : ℕ) → d < 36525 → d % 1461 < 366 → Placed d (d / 1461 * 4) (d % 1461)
early d h l =
    let q : d / 1461 ≤ 24 = omega arith in
    let e : d ≡ d / 1461 * 1461 + d % 1461 = omega arith in
    first-year d (d / 1461) (d % 1461) q l e

pub late : (d : ℕ) → d < 36525 → 366 ≤ d % 1461 → Placed d (d / 1461 * 4 + 1 + (d % 1461 - 366) / 365) ((d % 1461 - 366) % 365)
late d h l =
    let q : d / 1461 ≤ 24 = omega arith in
    let e : d ≡ d / 1461 * 1461 + d % 1461 = omega arith in
    let r : d % 1461 < 1461 = omega arith in
    later-year d (d / 1461) ((d % 1461 - 366) / 365) ((d % 1461 - 366) % 365) q (omega arith) (omega arith) (omega arith)

-- ---- what callers want: bounds, and the way there and back

-- the year and the day of an instant's day
record Dated (d y j : ℕ) : Type 0 where
  pub first : 2000 ≤ y
  pub last : y ≤ 2099
  pub one : 1 ≤ j
  pub most : j ≤ year_days y
  pub back : days_to y + (j - 1) ≡ days_to 2000 + d

dated-by : (d k j : ℕ) → Placed d k j → Dated d (year_of d) (day_of d)
dated-by d k j p =
    rw (year-is d k j p, day-is d k j p)
    (record { first = omega arith; last = omega (arith, p.few); one = omega arith; most = omega (arith, p.short); back = omega (arith, p.is) })

dated : (d : ℕ) → d < 36525 → Dated d (year_of d) (day_of d)
dated d h = by (dec_lt (d % 1461) 366)
  where
    by : Dec (d % 1461 < 366) → Dated d (year_of d) (day_of d)
    by (yes l) = dated-by d _ _ (early d h l)
    by (no l) = dated-by d _ _ (late d h (omega arith))

days-back : (d : ℕ) → d < 36525 → days_to (year_of d) + (day_of d - 1) - days_to 2000 ≡ d
days-back d h = omega (arith, (dated d h).back)

-- a day of a year is in its place
placed : (y j : ℕ) → 2000 ≤ y → y ≤ 2099 → 1 ≤ j → j ≤ year_days y → Placed (days_to y + (j - 1) - days_to 2000) (y - 2000) (j - 1)
placed y j a b h k =
    let e : 2000 + (y - 2000) ≡ y = omega arith in
    let m = days-to-mono 2000 y a in
    record { few = omega arith; short = rw e (omega arith); is = rw e (omega arith) }

-- from an instant to its year, day and second, and back
pub there_and_back : (n : ℕ) → n < span → instant_of (year_of (n / 86400)) (day_of (n / 86400)) (n % 86400) ≡ n
unfolding instant_of
there_and_back n h = rw (days-back (n / 86400) (omega arith)) (omega arith)

-- from a year, day and second to the instant, and back
pub record Came (n y j s : ℕ) : Type 0 where
  pub inside : n < span
  pub year : year_of (n / 86400) ≡ y
  pub day : day_of (n / 86400) ≡ j
  pub second : n % 86400 ≡ s

pub back-and-there : (y j s : ℕ) → 2000 ≤ y → y ≤ 2099 → 1 ≤ j → j ≤ year_days y → s < 86400 → Came (instant_of y j s) y j s
unfolding instant_of
back-and-there y j s a b h k l =
    let d = days_to y + (j - 1) - days_to 2000 in
    let p = placed y j a b h k in
    let q : (d * 86400 + s) / 86400 ≡ d = omega arith in
    let few : d < 36525 = placed-few d (y - 2000) (j - 1) p in
    record {
      inside = omega arith;
      year = rw q (year-is d (y - 2000) (j - 1) p ∙ omega arith);
      day = rw q (day-is d (y - 2000) (j - 1) p ∙ omega arith);
      second = omega arith;
    }

-- a stamp's parts fit a header
pub record Fits (s : Stamp) : Type 0 where
  pub one : 1 ≤ s.day
  pub most : s.day ≤ 366
  pub hour : s.hour ≤ 23
  pub minute : s.minute ≤ 59
  pub first : 2000 ≤ s.year
  pub last : s.year ≤ 2099
  pub there : s.day ≤ year_days s.year

pub stamp-fits : (n : ℕ) → n < span → Fits (stamp_of n)
unfolding stamp_of
stamp-fits n h =
    let g = dated (n / 86400) (omega arith) in
    record {
      one = g.one;
      most = omega (arith, g.most, year-days-most (year_of (n / 86400)));
      hour = omega arith;
      minute = omega arith;
      first = g.first;
      last = g.last;
      there = g.most;
    }

-- the instant of a stamp's minute: the seconds are dropped
pub minute-back : (n : ℕ) → n < span → instant_of (stamp_of n).year (stamp_of n).day ((stamp_of n).hour * 3600 + (stamp_of n).minute * 60) + n % 60 ≡ n
unfolding stamp_of instant_of
minute-back n h = rw (days-back (n / 86400) (omega arith)) (parts n)
  where
    parts : (n : ℕ) → n / 86400 * 86400 + (n % 86400 / 3600 * 3600 + n % 3600 / 60 * 60) + n % 60 ≡ n
    parts n = omega arith
