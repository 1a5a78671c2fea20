-- What a period in minutes has to be, by where it lies.
use Prim.Native.Nat.{ℕ, ◌%◌, ◌≤◌, ◌<◌}
use mathlib.Core.Bool.{true, false, or-false, and-true}
use mathlib.Core.List.{[], ◌∷◌}
use mathlib.Core.Path.{◌≡◌}
use native.Mathlib.Omega.{arith}
use lib.Dec.{eqb}
use Rattle.octets.proofs.Tests.{or_elim, each_of, between-high, between_is, below-between, above-between}
use Rattle.octets.specs.Bytes.{every, holds, between}
use Rattle.parts.specs.Parts.{is_period}

pub period-low : (m : ℕ) → m < 15 → is_period m ≡ false
unfolding is_period every
period-low m h = simp (below-between 15 45 m h, below-between 60 5970 m (omega arith))

pub period-quarter : (m : ℕ) → 15 ≤ m → m ≤ 45 → is_period m ≡ eqb (m % 15) 0
unfolding is_period every
period-quarter m h k = simp (between_is 15 45 m h k, below-between 60 5970 m (omega arith), and-true, or-false)

pub period-gap : (m : ℕ) → 45 < m → m < 60 → is_period m ≡ false
unfolding is_period every
period-gap m h k = simp (above-between 15 45 m h, below-between 60 5970 m k)

pub period-half : (m : ℕ) → 60 ≤ m → m ≤ 5970 → is_period m ≡ eqb (m % 30) 0
unfolding is_period every
period-half m h k = simp (above-between 15 45 m (omega arith), between_is 60 5970 m h k, and-true)

pub period-over : (m : ℕ) → 5970 < m → is_period m ≡ false
unfolding is_period every
period-over m h = simp (above-between 15 45 m (omega arith), above-between 60 5970 m h)

-- 99 hours 30 at most
pub period-high : (m : ℕ) → is_period m ≡ true → m ≤ 5970
unfolding is_period
period-high m h =
    or_elim (every holds (between 15 45 m ∷ eqb (m % 15) 0 ∷ [])) (every holds (between 60 5970 m ∷ eqb (m % 30) 0 ∷ [])) (m ≤ 5970) h
    (λ a. omega (arith, between-high 15 45 m (each_of _ a).0))
    (λ b. between-high 60 5970 m (each_of _ b).0)
