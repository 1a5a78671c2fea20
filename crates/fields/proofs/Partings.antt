-- What stands before and behind the first c of a run.
--     up_to-take, behind-drop, parts-long     both as parts of the run, and how long they are
--     parts-pass                             a test that c, what stands before it and what stands behind it pass
--     up_to-taken                            what stands before it, as an iterator takes it
use Prim.Native.Nat.{ℕ, suc, ◌+◌, ◌≤◌}
use mathlib.Core.Path.{◌≡◌, refl, ap, ◌∙◌}
use mathlib.Core.Bool.{Bool, true, false, not, cond}
use mathlib.Core.List.{List, [], ◌∷◌}
use native.Mathlib.Numerals.{one-add}
use native.Mathlib.Omega.{arith}
use Rattle.std.specs.List.{prefix_len}
use borrow.Author.Tests.{eqb-true}
use lib.Dec.{eqb}
use lib.ListN.{length, take, drop}
use Rattle.octets.specs.Bytes.{pick, every}
use Rattle.octets.proofs.Tests.{every-none, every-step, every_first, every_rest}
use Rattle.fields.specs.References.{up_to, behind}

module _ (c : ℕ) where
  module _ (x : ℕ) (xs : List ℕ) where
    pub up_to-stop : eqb x c ≡ true → up_to c (x ∷ xs) ≡ []
    unfolding up_to
    up_to-stop e = rw e

    pub up_to-more : eqb x c ≡ false → up_to c (x ∷ xs) ≡ x ∷ up_to c xs
    unfolding up_to
    up_to-more e = rw e

    pub behind-stop : eqb x c ≡ true → behind c (x ∷ xs) ≡ xs
    unfolding behind
    behind-stop e = rw e

    pub behind_more : eqb x c ≡ false → behind c (x ∷ xs) ≡ behind c xs
    unfolding behind
    behind_more e = rw e

  pub up_to-none : up_to c [] ≡ []
  unfolding up_to
  up_to-none = refl

  pub behind-none : behind c [] ≡ []
  unfolding behind
  behind-none = refl

  pub up_to-take : (t : List ℕ) → take (length (up_to c t)) t ≡ up_to c t
  up_to-take [] = rw up_to-none
  up_to-take (x ∷ t) = go (eqb x c) refl (up_to-take t)
    where
      go : (b : Bool) → eqb x c ≡ b → take (length (up_to c t)) t ≡ up_to c t → take (length (up_to c (x ∷ t))) (x ∷ t) ≡ up_to c (x ∷ t)
      go true e h = rw (up_to-stop x t e)
      go false e h = rw (up_to-more x t e) (ap (λ (l : List ℕ). x ∷ l) h)

  -- as an iterator takes it
  pub up_to-taken : (t : List ℕ) → take (prefix_len (λ b. not (eqb b c)) t) t ≡ up_to c t
  unfolding up_to
  up_to-taken [] = refl
  up_to-taken (x ∷ t) = go (eqb x c) (up_to-taken t)
    where
      go : (b : Bool) → take (prefix_len (λ b. not (eqb b c)) t) t ≡ up_to c t → take (cond (not b) (1 + prefix_len (λ b. not (eqb b c)) t) 0) (x ∷ t) ≡ pick b [] (x ∷ up_to c t)
      go true h = refl
      go false h = rw one-add (ap (λ (l : List ℕ). x ∷ l) h)

  pub behind-drop : (t : List ℕ) → drop (length (up_to c t) + 1) t ≡ behind c t
  behind-drop [] = rw (up_to-none, behind-none)
  behind-drop (x ∷ t) = go (eqb x c) refl (behind-drop t)
    where
      go : (b : Bool) → eqb x c ≡ b → drop (length (up_to c t) + 1) t ≡ behind c t → drop (length (up_to c (x ∷ t)) + 1) (x ∷ t) ≡ behind c (x ∷ t)
      go true e h = rw (up_to-stop x t e, behind-stop x t e)
      go false e h =
          let q : length (x ∷ up_to c t) + 1 ≡ suc (length (up_to c t) + 1) = omega arith in
          rw (up_to-more x t e, behind_more x t e) (ap (λ (n : ℕ). drop n (x ∷ t)) q ∙ h)

  pub parts-long : (t : List ℕ) → length t ≤ length (up_to c t) + 1 + length (behind c t)
  parts-long [] = omega arith
  parts-long (x ∷ t) = go (eqb x c) refl (parts-long t)
    where
      go : (b : Bool) → eqb x c ≡ b → length t ≤ length (up_to c t) + 1 + length (behind c t) → length (x ∷ t) ≤ length (up_to c (x ∷ t)) + 1 + length (behind c (x ∷ t))
      go true e h = rw (up_to-stop x t e, behind-stop x t e) (omega arith)
      go false e h = rw (up_to-more x t e, behind_more x t e) (omega arith)

  pub up_to-short : (t : List ℕ) → length (up_to c t) ≤ length t
  up_to-short [] = rw up_to-none (omega arith)
  up_to-short (x ∷ t) = go (eqb x c) refl (up_to-short t)
    where
      go : (b : Bool) → eqb x c ≡ b → length (up_to c t) ≤ length t → length (up_to c (x ∷ t)) ≤ length (x ∷ t)
      go true e h = rw (up_to-stop x t e) (omega arith)
      go false e h = rw (up_to-more x t e) (omega arith)

  -- where c passes a test, and so do what stands before it and behind it, all of the run does
  pub parts-pass : (f : ℕ → Bool) → f c ≡ true → (t : List ℕ) → every f (up_to c t) ≡ true → every f (behind c t) ≡ true → every f t ≡ true
  parts-pass f p [] a b = every-none f
  parts-pass f p (x ∷ t) a b = go (eqb x c) refl (parts-pass f p t)
    where
      go : (q : Bool) → eqb x c ≡ q → (every f (up_to c t) ≡ true → every f (behind c t) ≡ true → every f t ≡ true) → every f (x ∷ t) ≡ true
      go true e h = every-step f x t (ap f (eqb-true x c e) ∙ p) ∙ (rw (behind-stop x t e) at b)
      go false e h =
          let u : every f (x ∷ up_to c t) ≡ true = rw (up_to-more x t e) at a in
          every-step f x t (every_first f x (up_to c t) u) ∙ h (every_rest f x (up_to c t) u) (rw (behind_more x t e) at b)
