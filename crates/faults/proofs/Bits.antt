-- Laws of faults as bits.
use mathlib.Core.Path.{◌≡◌, refl, sym, ◌∙◌, ap, ap₂}
use Prim.Native.Nat.{ℕ, zero, suc, ◌+◌, ◌*◌, ◌/◌, ◌%◌, ◌^◌, ◌≤◌, ◌<◌, max}
use native.Mathlib.Nat.{le_of_suc-le-suc, not-suc-le-zero, pow-suc}
use native.Mathlib.Omega.{arith}
use mathlib.Core.List.{List, [], ◌∷◌}
use mathlib.Core.Bool.{Bool, true, false}
use lib.ListN.{length, set}
use lib.Bits.{bit_or, or_step, or_zero_r}
use lib.Count.{count_trailing_zeros, under}
use Rattle.octets.specs.Bytes.{pick}
use Rattle.faults.specs.WorkingField.{bit, bits_of, one_on, lowest}

-- the lowest digit, and the rest
pub lows : (bs : List Bool) (b : Bool) → bits_of (b ∷ bs) % 2 ≡ bit b
lows bs true = omega arith
lows bs false = omega arith

pub highs : (bs : List Bool) (b : Bool) → bits_of (b ∷ bs) / 2 ≡ bits_of bs
highs bs true = omega arith
highs bs false = omega arith

-- the zeros below the lowest fault, and one, are its field
pub field_is : (k : ℕ) (bs : List Bool) → length bs ≤ k → (bits_of bs ≡ 0 → ⊥) → count_trailing_zeros k (bits_of bs) + 1 ≡ lowest bs
unfolding count_trailing_zeros
field_is k [] l some = absurd (some refl)
field_is zero (b ∷ bs) l some = absurd (not-suc-le-zero l)
field_is (suc k) (true ∷ bs) l some = ap (λ (d : ℕ). under d (count_trailing_zeros k (bits_of (true ∷ bs) / 2)) + 1) (lows bs true)
field_is (suc k) (false ∷ bs) l some =
    let e : count_trailing_zeros k (bits_of bs) + 1 ≡ lowest bs = field_is k bs (le_of_suc-le-suc l) (λ z. some (omega (arith, z))) in
    ap₂ (λ (d m : ℕ). under d (count_trailing_zeros k m) + 1) (lows bs false) (highs bs false) ∙ up (count_trailing_zeros k (bits_of bs)) (lowest bs) e
  where
    up : (t m : ℕ) → t + 1 ≡ m → suc t + 1 ≡ one_on m
    up t zero e = absurd (omega (arith, e))
    up t (suc m) e = omega (arith, e)

-- none is at fault exactly where the bits are 0
pub none_is : (bs : List Bool) → bits_of bs ≡ 0 → lowest bs ≡ 0
none_is [] z = refl
none_is (true ∷ bs) z = absurd (omega (arith, z))
none_is (false ∷ bs) z = ap one_on (none_is bs (omega (arith, z)))

-- a fault that is noted at its own bit
pub noted-is : (bs : List Bool) (k : ℕ) → k < length bs → bit_or (bits_of bs) (2 ^ k) ≡ bits_of (set bs k true)
noted-is [] k l = absurd (not-suc-le-zero l)
noted-is (b ∷ bs) zero l = or_step (bits_of (b ∷ bs)) 1 ∙ ap₂ (λ (h d : ℕ). h * 2 + d) (or_zero_r _ ∙ highs bs b) (top b)
  where
    top : (b : Bool) → max (bits_of (b ∷ bs) % 2) 1 ≡ 1
    top true = ap (λ (d : ℕ). max d 1) (lows bs true)
    top false = ap (λ (d : ℕ). max d 1) (lows bs false)
noted-is (b ∷ bs) (suc k) l =
    or_step (bits_of (b ∷ bs)) (2 ^ suc k) ∙ ap₂ (λ (h d : ℕ). h * 2 + d) (ap₂ bit_or (highs bs b) half ∙ noted-is bs k (le_of_suc-le-suc l)) (ap₂ max (lows bs b) even ∙ least b)
  where
    half : 2 ^ suc k / 2 ≡ 2 ^ k
    half = let e : 2 ^ suc k ≡ 2 ^ k * 2 = pow-suc 2 k in omega (arith, e)

    even : 2 ^ suc k % 2 ≡ 0
    even = let e : 2 ^ suc k ≡ 2 ^ k * 2 = pow-suc 2 k in omega (arith, e)

    least : (b : Bool) → max (bit b) 0 ≡ bit b
    least true = refl
    least false = refl

-- one fault noted or not, on bits where it was not noted before
pub note : (bs : List Bool) (k : ℕ) (z : Bool) (x y : ℕ) → k < length bs → set bs k false ≡ bs → x ≡ bits_of bs → y ≡ pick z (bit_or x (2 ^ k)) x → y ≡ bits_of (set bs k z)
note bs k true x y l f ex ey = ey ∙ ap (λ (n : ℕ). bit_or n (2 ^ k)) ex ∙ noted-is bs k l
note bs k false x y l f ex ey = ey ∙ ex ∙ ap bits_of (sym f)
