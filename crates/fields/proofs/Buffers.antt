-- What was put at the front of a buffer d of m bytes, which is then x, is taken from there.
--     taken_back      the first n bytes are the run w that was put, if it fits
--     cut             where a run of more than n elements is refused, the first n + 1 are judged as the whole
use Prim.Native.Nat.{ℕ, suc, ◌+◌, ◌≤◌, ◌<◌}
use mathlib.Core.Path.{◌≡◌, sym, ap, ◌∙◌}
use mathlib.Core.List.{List}
use native.Mathlib.Omega.{arith}
use native.Mathlib.Decide.{dec_lt}
use lib.ListN.{length, take, drop, length-take}
use lib.Seq.{sets, length-sets, sets-eq, take_at, take_all}

module _ (d w x : List ℕ) (m n : ℕ) (l : length d ≡ m) (p : x ≡ sets d 0 w) (e : n ≡ length w) where
  pub put-long : length x ≡ m
  put-long = ap length p ∙ length-sets d 0 w ∙ l

  pub taken_back : n ≤ m → take n x ≡ w
  taken_back h =
      let f : 0 + length w ≤ length d = omega arith in
      ap (λ (z : List ℕ). take n z) (p ∙ sets-eq w d 0 f) ∙ take_at w (drop (0 + length w) d) n (sym e)

  pub taken-long : n ≤ m → n ≡ length (take n x)
  taken-long h = e ∙ sym (ap length (taken_back h))

pub cut : {A : Type 0} (f : List ℕ → A) (bad : A) (n : ℕ) → ((t : List ℕ) → n < length t → f t ≡ bad) → (v : List ℕ) → f (take (suc n) v) ≡ f v
cut f bad n long v = go (dec_lt n (length v))
  where
    go : Dec (n < length v) → f (take (suc n) v) ≡ f v
    go (yes h) = long (take (suc n) v) (simp length-take (omega arith)) ∙ sym (long v h)
    go (no h) = ap f (take_all (suc n) v (omega arith))
