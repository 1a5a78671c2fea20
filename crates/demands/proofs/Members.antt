-- Tests as facts, and tests of the members of a list.
--     both                                     two tests that hold together are equal
--     eqb-iff, same-iff, and-iff, not_iff      what a test says
--     some_in, in-passing                      one member passes, and those that pass
use Prim.Native.Nat.{ℕ}
use mathlib.Core.Bool.{Bool, true, false, ◌&&◌, ◌||◌, not, true≢false}
use mathlib.Core.Path.{◌≡◌, refl, sym, ap, ◌∙◌, subst}
use mathlib.Core.Logic.{inl, inr, ⊎_elim, ◌↔◌}
use mathlib.Core.List.{List, [], ◌∷◌}
use borrow.Author.Tests.{eqb-true, eq-eqb}
use lib.Dec.{eqb}
use Rattle.octets.specs.Bytes.{pick, same}
use Rattle.octets.proofs.Tests.{and_left, and_right}
use Rattle.octets.proofs.Sames.{same-is, same_refl}
use Rattle.ledger.specs.Sorted.{In}
use Rattle.told.specs.Values.{passing}
use Rattle.demands.specs.Board.{some}

-- ---- tests as facts

pub both : (x y : Bool) → (x ≡ true → y ≡ true) → (y ≡ true → x ≡ true) → x ≡ y
both true y f g = sym (f refl)
both false true f g = g refl
both false false f g = refl

pub eqb-iff : (m n : ℕ) → (eqb m n ≡ true) ↔ (m ≡ n)
eqb-iff m n = (eqb-true m n, eq-eqb m n)

pub same-iff : (u v : List ℕ) → (same u v ≡ true) ↔ (u ≡ v)
same-iff u v = (same-is u v, λ e. subst (λ (w : List ℕ). same u w ≡ true) e (same_refl u))

pub and-iff : (x y : Bool) (P Q : Type 0) → ((x ≡ true) ↔ P) → ((y ≡ true) ↔ Q) → ((x && y) ≡ true) ↔ (P × Q)
and-iff x y P Q f g = (λ e. (f.0 (and_left x y e), g.0 (and_right x y e)), λ w. let p = f.1 w.0 in rw p (g.1 w.1))

pub not_iff : (x : Bool) (P : Type 0) → ((x ≡ true) ↔ P) → (not x ≡ true) ↔ (P → ⊥)
not_iff true P f = (λ e p. true≢false (sym e), λ n. absurd (n (f.0 refl)))
not_iff false P f = (λ e p. true≢false (sym (f.1 p)), λ n. refl)

-- ---- the members of a list

module _ {A : Type 0} (f : A → Bool) where
  pub some_in : (l : List A) → (some f l ≡ true) ↔ ((x : A) × In x l × (f x ≡ true))
  some_in [] = (λ e. absurd (true≢false (sym e)), λ w. absurd w.1)
  some_in (x ∷ l) = go (f x) refl (some_in l)
    where
      go : (t : Bool) → f x ≡ t → ((some f l ≡ true) ↔ ((y : A) × In y l × (f y ≡ true))) → ((t || some f l) ≡ true) ↔ ((y : A) × In y (x ∷ l) × (f y ≡ true))
      go true e g = (λ h. (x, inl refl, e), λ w. refl)
      go false e g = (
        λ h. let w = g.0 h in (w.0, inr w.1, w.2),
        λ w. ⊎_elim (λ p. absurd (true≢false (sym w.2 ∙ ap f p ∙ e))) (λ m. g.1 (w.0, m, w.2)) w.1,
      )

  pub in-passing : (y : A) (l : List A) → In y (passing f l) ↔ (In y l × (f y ≡ true))
  in-passing y [] = (absurd, λ w. absurd w.0)
  in-passing y (x ∷ l) = go (f x) refl (in-passing y l)
    where
      go : (t : Bool) → f x ≡ t → (In y (passing f l) ↔ (In y l × (f y ≡ true))) → In y (pick t (x ∷ passing f l) (passing f l)) ↔ (In y (x ∷ l) × (f y ≡ true))
      go true e g = (
        ⊎_elim (λ p. (inl p, ap f p ∙ e)) (λ m. (inr (g.0 m).0, (g.0 m).1)),
        λ w. ⊎_elim inl (λ m. inr (g.1 (m, w.1))) w.0,
      )
      go false e g = (
        λ m. (inr (g.0 m).0, (g.0 m).1),
        λ w. ⊎_elim (λ p. absurd (true≢false (sym w.1 ∙ ap f p ∙ e))) (λ m. g.1 (m, w.1)) w.0,
      )
