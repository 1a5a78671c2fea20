-- A name that carries the prefix: it begins with it, and goes on behind it, not past its end.
use Prim.Native.Nat.{ℕ, ◌+◌, ◌-◌, ◌≤◌}
use mathlib.Core.Path.{◌≡◌, refl, ap, ◌∙◌}
use mathlib.Core.Bool.{Bool, true, false, ◌&&◌}
use mathlib.Core.List.{List}
use native.Mathlib.Omega.{arith}
use borrow.Author.Tests.{leb-true, leb-false}
use lib.ListN.{length, take, drop}
use lib.Dec.{eqb, leb}
use Rattle.std.specs.Cmp.Lexicographic.{pointwise}
use Rattle.std.proofs.lemmas.List.{take-take, length-take}
use Rattle.octets.proofs.Tests.{never}
use Rattle.octets.proofs.Sames.{same-is, same-pointwise, same_flip}
use Rattle.octets.specs.Bytes.{pick, part, same, stands}
use Rattle.reads.specs.Names.{local_at}

module _ (s p : List ℕ) (i a : ℕ) (h : i ≤ a) where
  pub local-ends : local_at s p i a ≤ a
  unfolding local_at
  local-ends = go (leb (length p) (a - i)) refl (stands p s i)
    where
      go : (b : Bool) → leb (length p) (a - i) ≡ b → (t : Bool) → pick (b && t) (i + length p) a ≤ a
      go false e t = omega arith
      go true e false = omega arith
      go true e true = omega (arith, leb-true (length p) (a - i) e)

  -- what stands from i to a begins with the prefix
  pub carries : a ≤ length s → {t : Bool} → t ≡ pointwise eqb p (take (length p) (part s i (a - i))) → t ≡ (leb (length p) (a - i) && stands p s i)
  carries in_it e = e ∙ same-pointwise p _ ∙ same_flip p _ ∙ go (leb (length p) (a - i)) refl
    where
      go : (b : Bool) → leb (length p) (a - i) ≡ b → same (take (length p) (part s i (a - i))) p ≡ (b && stands p s i)
      go true e = rw (take-take (length p) (a - i) (drop i s) (leb-true (length p) (a - i) e))
      go false e = never _ (λ h. omega (arith, ap length (same-is _ p h), leb-false (length p) (a - i) e, length-take (length p) (part s i (a - i)), length-take (a - i) (drop i s)))
