-- There and sound is exactly once and holding no element.
use Prim.Native.Nat.{ℕ, zero, suc}
use mathlib.Core.Path.{◌≡◌, refl, sym, ◌∙◌}
use mathlib.Core.Bool.{Bool, true, false, not, ◌&&◌, and-false}
use native.Mathlib.Omega.{arith}
use borrow.Author.Tests.{ne_eqb, lt-leb}
use lib.Dec.{eqb, leb}
use Rattle.octets.specs.Bytes.{every}
use Rattle.reads.specs.declared.Leaf.{Leaf}
use Rattle.reads.specs.WorkingLeaves.{sound_of, only_of, pair_ok}
use Rattle.reads.proofs.is_pair.Goals as goal

one-is : (m : ℕ) → eqb m 1 ≡ (not (eqb m 0) && leb m 1)
one-is zero = refl
one-is (suc zero) = refl
one-is (suc (suc m)) = rw (ne_eqb (suc (suc m)) 1 (omega arith), lt-leb (suc (suc m)) 1 (omega arith), and-false)

both-only : (a b : Leaf) → (only_of a && only_of b) ≡ pair_ok a b
unfolding only_of pair_ok sound_of every
both-only a b = rw (one-is a.count, one-is b.count) (go (not (eqb a.count 0)) (leb a.count 1) (not a.holds) (not (eqb b.count 0)) (leb b.count 1) (not b.holds))
  where
    go : (x y h u v k : Bool) → (((x && y) && (h && true)) && ((u && v) && (k && true))) ≡ (x && (u && ((y && (h && true)) && ((v && (k && true)) && true))))
    go false y h u v k = refl
    go true false h false v k = refl
    go true false h true v k = refl
    go true true false false v k = refl
    go true true false true v k = refl
    go true true true false v k = refl
    go true true true true false k = refl
    go true true true true true false = refl
    go true true true true true true = refl

pub returns-then-is_only : goal.returns-then-is_only
returns-then-is_only c =
    rw (← both-only c.args.name c.args.value, sym c.is_only.ensures ∙ c.if-is_only.true) c.is_only-then-is_only.ensures

pub returns-else-is_only : goal.returns-else-is_only
returns-else-is_only c =
    rw (← both-only c.args.name c.args.value, c.if-is_only.false, sym c.is_only.ensures ∙ c.if-is_only.false)
