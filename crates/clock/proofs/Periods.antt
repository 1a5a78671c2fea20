-- The period in each of its three ranges, and what every period is.
--     period-is     whole quarters of an hour, above 45 minutes whole halves, at most 99 hours 30, and no shorter than asked
use mathlib.Core.Path.{◌≡◌, refl}
use mathlib.Core.Bool.{Bool, true, false}
use Prim.Native.Nat.{ℕ, ◌+◌, ◌*◌, ◌/◌, ◌%◌, ◌≤◌, ◌<◌}
use native.Mathlib.Omega.{arith}
use native.Mathlib.Decide.{dec_le}
use Rattle.std.specs.Int.{div_ceil}
use Rattle.std.specs.Prelude.{min}
use borrow.Author.Tests.{le-leb, lt-leb, leb-true}
use lib.Dec.{leb}
use Rattle.octets.specs.Bytes.{pick}
use Rattle.clock.specs.Period.{up, at_most, period_of}

pub period-short : (n : ℕ) → n ≤ 2700 → period_of n ≡ (n + 899) / 900 * 15
unfolding period_of up
period-short n h = rw (le-leb n 2700 h)

pub period-long : (n : ℕ) → 2700 < n → n ≤ 358200 → period_of n ≡ (n + 1799) / 1800 * 30
unfolding period_of up at_most
period-long n h k = rw (lt-leb n 2700 h, le-leb ((n + 1799) / 1800 * 30) 5970 (omega arith))

at-most-full : (b : Bool) (x most : ℕ) → leb x most ≡ b → most ≤ x → pick b x most ≡ most
at-most-full true x most e h = omega (arith, leb-true x most e)
at-most-full false x most e h = refl

pub period-most : (n : ℕ) → 358200 ≤ n → period_of n ≡ 5970
unfolding period_of up at_most
period-most n h = rw (lt-leb n 2700 (omega arith)) (at-most-full _ ((n + 1799) / 1800 * 30) 5970 refl (omega arith))

-- the same as the code rounds up
pub period-quarters : (n : ℕ) → n ≤ 2700 → div_ceil n 900 * 15 ≡ period_of n
period-quarters n h = rw (period-short n h) (omega arith)

pub period-halves : (n : ℕ) → 2700 < n → min (div_ceil n 1800 * 30) 5970 ≡ period_of n
period-halves n h = by (dec_le n 358200)
  where
    by : Dec (n ≤ 358200) → min (div_ceil n 1800 * 30) 5970 ≡ period_of n
    by (yes l) = rw (period-long n h l) (omega arith)
    by (no l) = rw (period-most n (omega arith)) (omega arith)

-- what a period is, whatever the seconds
pub record Period (n m : ℕ) : Type 0 where
  pub positive : 0 < n → 15 ≤ m
  pub quarters : m % 15 ≡ 0
  pub halves : 45 < m → m % 30 ≡ 0
  pub most : m ≤ 5970
  pub long : n ≤ 358200 → n ≤ m * 60

pub period-is : (n : ℕ) → Period n (period_of n)
period-is n = by (dec_le n 2700) (dec_le n 358200)
  where
    by : Dec (n ≤ 2700) → Dec (n ≤ 358200) → Period n (period_of n)
    by (yes s) d = rw (period-short n s) (record { positive = λ h. omega arith; quarters = omega arith; halves = λ h. absurd (omega arith); most = omega arith; long = λ h. omega arith })
    by (no s) (yes l) = rw (period-long n (omega arith) l) (record { positive = λ h. omega arith; quarters = omega arith; halves = λ h. omega arith; most = omega arith; long = λ h. omega arith })
    by (no s) (no l) = rw (period-most n (omega arith)) (record { positive = λ h. omega arith; quarters = refl; halves = λ h. refl; most = omega arith; long = λ h. absurd (omega arith) })
