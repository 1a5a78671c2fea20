-- A run that is two runs, one behind the other, and parts of a run to its end.
use Prim.Native.Nat.{ℕ, ◌-◌, ◌≤◌}
use mathlib.Core.Path.{◌≡◌, refl, ap}
use mathlib.Core.Bool.{Bool, true, false, ◌&&◌}
use mathlib.Core.List.{List, [], ◌∷◌, ◌++◌}
use native.Mathlib.Omega.{arith}
use lib.ListN.{length, take, drop, length-take, length-drop}
use lib.Seq.{take_all}
use lib.Dec.{eqb}
use Rattle.octets.specs.Bytes.{same, stands}
use Rattle.octets.proofs.Sames.{stands-is}

-- what begins with the first is as long
pub joined-fits : (t a : List ℕ) → stands a t 0 ≡ true → length a ≤ length t
joined-fits t a h =
    let e = ap length (stands-is a t 0 h) in
    let f : length (take (length a) t) ≤ length t = simp length-take (omega arith) in
    omega (arith, e, f)

-- the first part differs, or it is the same and the rest decides
pub joined-not : (t a b : List ℕ) → same (take (length a) t) a ≡ false → same t (a ++ b) ≡ false
unfolding same
joined-not t [] b h = let z : true ≡ false = h in absurd (mathlib.Core.Bool.true≢false z)
joined-not [] (y ∷ a) b h = refl
joined-not (x ∷ t) (y ∷ a) b h = go (eqb x y) h (joined-not t a b)
  where
    go : (e : Bool) → (e && same (take (length a) t) a) ≡ false → (same (take (length a) t) a ≡ false → same t (a ++ b) ≡ false) → (e && same t (a ++ b)) ≡ false
    go true q r = r q
    go false q r = refl

pub joined-rest : (t a b : List ℕ) → same (take (length a) t) a ≡ true → same (drop (length a) t) b ≡ same t (a ++ b)
unfolding same
joined-rest t [] b h = refl
joined-rest [] (y ∷ a) b h = let z : false ≡ true = h in absurd (mathlib.Core.Bool.false≢true z)
joined-rest (x ∷ t) (y ∷ a) b h = go (eqb x y) h (joined-rest t a b)
  where
    go : (e : Bool) → (e && same (take (length a) t) a) ≡ true → (same (take (length a) t) a ≡ true → same (drop (length a) t) b ≡ same t (a ++ b)) → same (drop (length a) t) b ≡ (e && same t (a ++ b))
    go true q r = r q
    go false q r = absurd (mathlib.Core.Bool.false≢true q)

-- a part that goes to the end
pub to_end : (t : List ℕ) (n : ℕ) → take (length t - n) (drop n t) ≡ drop n t
to_end t n = let l = length-drop n t in take_all (length t - n) (drop n t) (omega arith)
