-- Runs of calm bytes.
--     calm-in, run-edge      a calm byte lies inside the message, and so does where a run of them ends
--     carried                what each calm byte carries on, a run of them does
--     put_one_lem            one more is put
use Prim.Native.Nat.{ℕ, zero, suc, ◌+◌, ◌<◌, ◌≤◌}
use mathlib.Core.Path.{◌≡◌, refl}
use mathlib.Core.Bool.{true}
use mathlib.Core.List.{List}
use mathlib.Core.Logic.{◌⊎◌, inr}
use native.Mathlib.Nat.{add-zero}
use native.Mathlib.Omega.{arith}
use lib.ListN.{length, set}
use lib.Seq.{sets}
use Rattle.octets.specs.Bytes.{byte_at, one_of, between, every, is_space, is_visible}
use Rattle.octets.proofs.Scans.{inside}
use Rattle.calm.specs.WorkingCalm.{is_mark, calm_at, Calm, soft, soft_at}
use Rattle.calm.proofs.Marks.{calm-elim}

module _ (s : List ℕ) where
  pub white-in : (i : ℕ) → is_space (byte_at s i) ≡ true → i < length s
  unfolding is_space one_of
  white-in i h = inside is_space s i refl h

  mark-in : (i : ℕ) → is_mark (byte_at s i) ≡ true → i < length s
  unfolding is_mark is_visible between every
  mark-in i h = inside is_mark s i refl h

  pub calm-in : (i : ℕ) → calm_at s i ≡ true → i < length s
  calm-in i h = calm-elim (byte_at s i) (byte_at s (i + 1)) (i < length s) h (mark-in i) (λ w m. white-in i w)

  -- a place inside, or no further than m
  abbrev pub Near : ℕ → ℕ → Type 0
  Near m i = i ≤ m ⊎ i ≤ length s

  pub run-edge : (m i n : ℕ) → Calm s i n → Near m i → Near m (i + n)
  run-edge m i zero w h = rw add-zero h
  run-edge m i (suc n) w h = let l = calm-in (i + n) (w n (omega arith)) in inr (omega (arith, l))

  pub carried : (P : ℕ → Type 0) (i n : ℕ) → Calm s i n → ((j : ℕ) → j < n → calm_at s (i + j) ≡ true → P j → P (j + 1)) → P 0 → P n
  carried P i zero w f p = p
  carried P i (suc n) w f p =
      let e : n + 1 ≡ suc n = omega arith in
      rw e at (f n (omega arith) (w n (omega arith)) (carried P i n (λ j h. w j (omega (arith, h))) (λ j h. f j (omega (arith, h))) p))

  pub put_one_lem : (x : List ℕ) (e i j : ℕ) → set (sets x e (soft_at s i j)) (e + j) (soft (byte_at s (i + j))) ≡ sets x e (soft_at s i (suc j))
  unfolding soft_at
  put_one_lem x e i zero = rw (add-zero, add-zero)
  put_one_lem x e i (suc j) =
      let p : e + suc j ≡ suc e + j = omega arith in
      let q : i + suc j ≡ i + 1 + j = omega arith in
      rw (p, q) (put_one_lem (set x e (soft (byte_at s i))) (suc e) (i + 1) j)
