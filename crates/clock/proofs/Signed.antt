-- Signed numbers that are small enough are what their bits say.
use mathlib.Core.Path.{◌≡◌, ap, ap₂, ◌∙◌}
use mathlib.Core.Bool.{Bool, true, false, cond}
use Prim.Native.Nat.{ℕ, zero, suc, ◌+◌, ◌-◌, ◌*◌, ◌≤◌, ◌<◌, ◌^◌}
use native.Mathlib.Omega.{arith}
use borrow.Author.Tests.{le-ltb}
use lib.IntN.{ℤ, pos, negsuc, neg_ℤ, ◌+ℤ◌, ◌-ℤ◌, ◌*ℤ◌, sub_ℕ, +ℤ_idl}
use lib.Signed.{mag}
use lib.Dec.{ltb}
use mir.Syntax.{w64}
use mir.Val.{SFits, to_z, of_z}
use mir.Facts.{to_z_pos, to_z-of_z}

-- ---- how large a result is

mag-cond : (t : Bool) (x y n : ℕ) → x ≤ n → y ≤ n → mag (cond t (negsuc x) (pos y)) ≤ n
mag-cond true x y n h k = h
mag-cond false x y n h k = k

mag-subℕ : (a b : ℕ) → mag (sub_ℕ a b) ≤ a + b
mag-subℕ a b = mag-cond (ltb a b) (b - suc a) (a - b) (a + b) (omega arith) (omega arith)

mag-add : (x y : ℤ) → mag (x +ℤ y) ≤ mag x + mag y + 1
mag-add (pos a) (pos b) = omega arith
mag-add (pos a) (negsuc b) = omega (arith, mag-subℕ a (suc b))
mag-add (negsuc a) (pos b) = omega (arith, mag-subℕ b (suc a))
mag-add (negsuc a) (negsuc b) = omega arith

pub mag-neg : (x : ℤ) → mag (neg_ℤ x) ≤ mag x + 1
mag-neg (pos zero) = omega arith
mag-neg (pos (suc n)) = omega arith
mag-neg (negsuc n) = omega arith

pub mag-sub : (x y : ℤ) → mag (x -ℤ y) ≤ mag x + mag y + 2
mag-sub x y = omega (arith, mag-add x (neg_ℤ y), mag-neg y)

mag-neg-pos : (n m : ℕ) → n ≤ m → mag (neg_ℤ (pos n)) ≤ m
mag-neg-pos zero m h = omega arith
mag-neg-pos (suc n) m h = omega arith

pub mag-sixty : (x : ℤ) → mag (x *ℤ pos 60) ≤ (mag x + 1) * 60
mag-sixty (pos a) = omega arith
mag-sixty (negsuc a) = mag-neg-pos (suc a * 60) ((mag (negsuc a) + 1) * 60) (omega arith)

-- ---- from bits to numbers

pub fits : (z : ℤ) → mag z < 2 ^ 63 → SFits w64 z
fits z h = record { sfits = h }

pub back : (z : ℤ) → mag z < 2 ^ 63 → to_z w64 (of_z w64 z) ≡ z
back z h = to_z-of_z (fits z h)

pub unsigned : (n : ℕ) → n < 2 ^ 63 → to_z w64 n ≡ pos n
unsigned n h = to_z_pos w64 h

-- ---- the three expressions of the code, as their bits are read

pub minus-fits : (m : ℕ) → m < 2 ^ 32 → SFits w64 (pos 0 -ℤ to_z w64 m)
minus-fits m h = rw (unsigned m (omega arith)) (fits (pos 0 -ℤ pos m) (omega (arith, mag-sub (pos 0) (pos m))))

pub minus_is : (m : ℕ) → m < 2 ^ 32 → to_z w64 (of_z w64 (pos 0 -ℤ to_z w64 m)) ≡ neg_ℤ (pos m)
minus_is m h = to_z-of_z (minus-fits m h) ∙ ap (λ (z : ℤ). pos 0 -ℤ z) (unsigned m (omega arith)) ∙ +ℤ_idl (neg_ℤ (pos m))

module _ (d s : ℕ) (h : d ≤ 4000000) (k : s < 86400) where
  pub days-fit : SFits w64 (to_z w64 d *ℤ pos 86400)
  days-fit = rw (unsigned d (omega arith)) (fits (pos (d * 86400)) (omega arith))

  days-are : to_z w64 (of_z w64 (to_z w64 d *ℤ pos 86400)) ≡ pos (d * 86400)
  days-are = to_z-of_z days-fit ∙ ap (λ (z : ℤ). z *ℤ pos 86400) (unsigned d (omega arith))

  sum_is : to_z w64 (of_z w64 (to_z w64 d *ℤ pos 86400)) +ℤ to_z w64 s ≡ pos (d * 86400 + s)
  sum_is = ap₂ (λ (x y : ℤ). x +ℤ y) days-are (unsigned s (omega arith))

  pub sum_fits : SFits w64 (to_z w64 (of_z w64 (to_z w64 d *ℤ pos 86400)) +ℤ to_z w64 s)
  sum_fits = rw sum_is (fits (pos (d * 86400 + s)) (omega arith))

  since-is : to_z w64 (of_z w64 (to_z w64 (of_z w64 (to_z w64 d *ℤ pos 86400)) +ℤ to_z w64 s)) -ℤ pos 63113904000 ≡ pos (d * 86400 + s) -ℤ pos 63113904000
  since-is = ap (λ (z : ℤ). z -ℤ pos 63113904000) (to_z-of_z sum_fits ∙ sum_is)

  pub since-fits : SFits w64 (to_z w64 (of_z w64 (to_z w64 (of_z w64 (to_z w64 d *ℤ pos 86400)) +ℤ to_z w64 s)) -ℤ pos 63113904000)
  since-fits = rw since-is (fits (pos (d * 86400 + s) -ℤ pos 63113904000) (omega (arith, mag-sub (pos (d * 86400 + s)) (pos 63113904000))))

  pub since-reads : to_z w64 (of_z w64 (to_z w64 (of_z w64 (to_z w64 (of_z w64 (to_z w64 d *ℤ pos 86400)) +ℤ to_z w64 s)) -ℤ pos 63113904000)) ≡ pos (d * 86400 + s) -ℤ pos 63113904000
  since-reads = to_z-of_z since-fits ∙ since-is

module _ (l m : ℤ) (f : SFits w64 l) (g : SFits w64 m) (h : mag l < 1000000000000) (k : mag m < 1000) where
  pub sixty-fits : SFits w64 (to_z w64 (of_z w64 m) *ℤ pos 60)
  sixty-fits = rw (to_z-of_z g) (fits (m *ℤ pos 60) (omega (arith, mag-sixty m)))

  less-is : to_z w64 (of_z w64 l) -ℤ to_z w64 (of_z w64 (to_z w64 (of_z w64 m) *ℤ pos 60)) ≡ l -ℤ (m *ℤ pos 60)
  less-is = ap₂ (λ (x y : ℤ). x -ℤ y) (to_z-of_z f) (to_z-of_z sixty-fits ∙ ap (λ (z : ℤ). z *ℤ pos 60) (to_z-of_z g))

  pub less-fits : SFits w64 (to_z w64 (of_z w64 l) -ℤ to_z w64 (of_z w64 (to_z w64 (of_z w64 m) *ℤ pos 60)))
  less-fits = rw less-is (fits (l -ℤ (m *ℤ pos 60)) (omega (arith, mag-sub l (m *ℤ pos 60), mag-sixty m)))

  pub less-reads : to_z w64 (of_z w64 (to_z w64 (of_z w64 l) -ℤ to_z w64 (of_z w64 (to_z w64 (of_z w64 m) *ℤ pos 60)))) ≡ l -ℤ (m *ℤ pos 60)
  less-reads = to_z-of_z less-fits ∙ less-is

-- ---- a difference that is not negative

pub minus : (a b : ℕ) → b ≤ a → pos a -ℤ pos b ≡ pos (a - b)
minus a zero h = ap pos (omega arith)
minus a (suc b) h = rw (le-ltb a (suc b) h)
