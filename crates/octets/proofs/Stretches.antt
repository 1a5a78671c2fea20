-- A test that holds at each of the n places from i on.
--     each_none, each_more, each-join     at no place, at one more, and at those of a stretch behind them
--     each-behind                         the last for what is no test, from place 0 on
use Prim.Native.Nat.{ℕ, ◌+◌, ◌-◌, ◌<◌}
use mathlib.Core.Path.{◌≡◌}
use mathlib.Core.Bool.{Bool, true}
use native.Mathlib.Nat.{add-zero}
use native.Mathlib.Omega.{arith}
use native.Mathlib.Decide.{dec_lt}

abbrev pub EachOf : (ℕ → Bool) → ℕ → ℕ → Type 0
EachOf f i n = (j : ℕ) → j < n → f (i + j) ≡ true

module _ (f : ℕ → Bool) (i : ℕ) where
  pub each_none : EachOf f i 0
  each_none j h = absurd (omega (arith, h))

  pub each-join : (n m : ℕ) → EachOf f i n → EachOf f (i + n) m → EachOf f i (n + m)
  each-join n m w v j h = go (dec_lt j n)
    where
      go : Dec (j < n) → f (i + j) ≡ true
      go (yes l) = w j l
      go (no l) = let q : i + j ≡ i + n + (j - n) = omega arith in rw q (v (j - n) (omega arith))

  pub each_more : (n : ℕ) → EachOf f i n → f (i + n) ≡ true → EachOf f i (n + 1)
  each_more n w e = each-join n 1 w (λ j h. let z : j ≡ 0 = omega (arith, h) in rw (z, add-zero) e)

pub each-behind : (P : ℕ → Type 0) (n m : ℕ) → ((k : ℕ) → k < n → P k) → ((k : ℕ) → k < m → P (n + k)) → (k : ℕ) → k < n + m → P k
each-behind P n m v w k h = go (dec_lt k n)
  where
    go : Dec (k < n) → P k
    go (yes l) = v k l
    go (no l) = let q : n + (k - n) ≡ k = omega arith in rw q at (w (k - n) (omega arith))
