-- The list of locations: the first ones, and zeros behind them.
use Prim.Native.Nat.{ℕ, zero, suc, ◌+◌, ◌-◌, ◌≤◌}
use mathlib.Core.Bool.{true}
use mathlib.Core.List.{List, [], ◌∷◌, ◌++◌}
use mathlib.Core.Path.{◌≡◌, refl, sym, ap, ap₂, ◌∙◌}
use native.Mathlib.Omega.{arith}
use lib.ListN.{length, take, drop, replicate, length-drop, take-append-drop}
use lib.Seq.{sets-eq, length-sets, take_at, drop_at, length-take-le}
use borrow.Author.Tests.{eqb-true}
use Rattle.octets.proofs.Parts.{drop-zeros}
use Rattle.octets.proofs.Tests.{every_first, every_rest, every-right}
use Rattle.octets.specs.Bytes.{every}
use Rattle.parts.specs.Parts.{padded}
use Rattle.parts.specs.Parts.{is_zero, no_locations}

-- ---- locations with zeros behind them

pub padded-form : (ps : List ℕ) (n : ℕ) → length ps ≡ n → n ≤ 31 → padded ps ≡ ps ++ drop n no_locations
padded-form ps n h k =
    let fits : 0 + length ps ≤ length no_locations = omega arith in
    let e : 0 + length ps ≡ n = omega arith in
    sets-eq ps no_locations 0 fits ∙ ap (λ (x : ℕ). ps ++ drop x no_locations) e

module _ (ps : List ℕ) (n : ℕ) (long : length ps ≡ n) (few : n ≤ 31) where
  pub padded-first : take n (padded ps) ≡ ps
  padded-first = ap (take n) (padded-form ps n long few) ∙ take_at ps (drop n no_locations) n long

  pub padded-rest : every is_zero (drop n (padded ps)) ≡ true
  unfolding every is_zero
  padded-rest =
      ap (λ (l : List ℕ). every is_zero (drop n l)) (padded-form ps n long few)
      ∙ ap (every is_zero) (drop_at ps (drop n no_locations) n long)
      ∙ every-right is_zero (take n no_locations) (drop n no_locations) (ap (every is_zero) (take-append-drop n no_locations))

  pub padded-long : length (padded ps) ≡ 31
  padded-long = length-sets no_locations 0 ps

-- ---- a list that has zeros behind its first n

pub zeros-are : (l : List ℕ) (n : ℕ) → length l ≡ n → every is_zero l ≡ true → l ≡ replicate n 0
unfolding is_zero
zeros-are [] zero e h = refl
zeros-are [] (suc n) e h = absurd (omega arith)
zeros-are (x ∷ l) zero e h = absurd (omega arith)
zeros-are (x ∷ l) (suc n) e h = ap₂ (λ (y : ℕ) (m : List ℕ). y ∷ m) (eqb-true x 0 (every_first is_zero x l h)) (zeros-are l n (omega arith) (every_rest is_zero x l h))

pub padded-is : (l : List ℕ) (n : ℕ) → length l ≡ 31 → n ≤ 31 → every is_zero (drop n l) ≡ true → padded (take n l) ≡ l
padded-is l n h k z =
    let ld : length (drop n l) ≡ 31 - n = length-drop n l ∙ ap (λ (x : ℕ). x - n) h in
    padded-form (take n l) n (length-take-le n l (omega arith)) k
    ∙ ap (λ (m : List ℕ). take n l ++ m) (drop-zeros n 31 ∙ sym (zeros-are (drop n l) (31 - n) ld z))
    ∙ take-append-drop n l
