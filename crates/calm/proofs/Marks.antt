-- What marks, white space and calm bytes are.
--     mark-least, mark-most, mark-other     a mark is of 33 to 126, and neither `<` nor `&`
--     white                                 white space is one of four
--     odd-mark, stirs-space                 what the tests of a block tell
--     calm-elim                             a calm byte is a mark, or white space before one
--     soft-mark, soft-white, soft-least, soft-most     the character that it is
use Prim.Native.Nat.{ℕ, ◌+◌, ◌<◌, ◌≤◌}
use mathlib.Core.Path.{◌≡◌, refl, sym, ◌∙◌, subst}
use mathlib.Core.Bool.{Bool, true, false, not, ◌||◌, ◌&&◌, false≢true}
use mathlib.Core.List.{[], ◌∷◌}
use native.Mathlib.Omega.{arith}
use borrow.Author.Tests.{ne_eqb, eqb-true, lt-ltb, le-ltb}
use lib.Dec.{eqb, ltb}
use Rattle.octets.specs.Bytes.{pick, one_of, is_space, is_visible}
use Rattle.octets.proofs.Tests.{and_left, and_right, or_elim, between-low, between-high, between_is, not-under, not_equal}
use Rattle.calm.specs.WorkingCalm.{is_mark, is_calm, soft}

-- ---- marks and white space

module _ (b : ℕ) where
  module _ (h : is_mark b ≡ true) where
    visible : is_visible b ≡ true
    unfolding is_mark
    visible = and_left (is_visible b) (not (one_of (60 ∷ 38 ∷ []) b)) h

    pub mark-least : 33 ≤ b
    unfolding is_visible
    mark-least = between-low 33 126 b visible

    pub mark-most : b ≤ 126
    unfolding is_visible
    mark-most = between-high 33 126 b visible

    pub mark-other : not (one_of (60 ∷ 38 ∷ []) b) ≡ true
    unfolding is_mark
    mark-other = and_right (is_visible b) (not (one_of (60 ∷ 38 ∷ []) b)) h

    pub mark-shows : is_space b ≡ false
    unfolding is_space one_of
    mark-shows =
        let l = mark-least in
        rw (ne_eqb b 9 (omega arith), ne_eqb b 10 (omega arith), ne_eqb b 13 (omega arith), ne_eqb b 32 (omega arith))

  pub white : (P : ℕ → Type 0) → is_space b ≡ true → P 9 → P 10 → P 13 → P 32 → P b
  unfolding is_space one_of
  white P h p q r t =
      or_elim (eqb b 9) (one_of (10 ∷ 13 ∷ 32 ∷ []) b) (P b) h (λ e. subst P (sym (eqb-true b 9 e)) p)
      (λ k. or_elim (eqb b 10) (one_of (13 ∷ 32 ∷ []) b) (P b) k (λ e. subst P (sym (eqb-true b 10 e)) q)
      (λ l. or_elim (eqb b 13) (one_of (32 ∷ []) b) (P b) l (λ e. subst P (sym (eqb-true b 13 e)) r)
      (λ m. or_elim (eqb b 32) (one_of [] b) (P b) m (λ e. subst P (sym (eqb-true b 32 e)) t) (λ n. absurd (false≢true n)))))

  -- ---- the tests of a block, where they give 0

  pub odd-mark : (p q r t : ℕ) → p ≡ pick (ltb b 33) 1 0 → q ≡ pick (ltb 126 b) 1 0 → r ≡ pick (eqb b 38) 1 0 → t ≡ pick (eqb b 60) 1 0 → p + q + r + t ≡ 0
      → is_mark b ≡ true
  unfolding is_mark is_visible one_of
  odd-mark p q r t e f g h z =
      let lo = not-under b 33 p e (omega (arith, z)) in
      let hi = not-under 126 b q f (omega (arith, z)) in
      rw (between_is 33 126 b lo hi, ne_eqb b 60 (not_equal b 60 t h (omega (arith, z))), ne_eqb b 38 (not_equal b 38 r g (omega (arith, z))))

or_right : (a b : Bool) → b ≡ true → (a || b) ≡ true
or_right true b e = refl
or_right false b e = e

module _ (b c : ℕ) where
  pub calm-mark : is_mark b ≡ true → is_calm b c ≡ true
  unfolding is_calm
  calm-mark h = rw h

  pub calm-not : is_mark b ≡ false → is_space b ≡ false → is_calm b c ≡ false
  unfolding is_calm
  calm-not h k = rw (h, k)

  pub calm-white : is_mark b ≡ false → is_space b ≡ true → is_calm b c ≡ is_mark c
  unfolding is_calm
  calm-white h k = rw (h, k)

  pub stirs-space : (p q : ℕ) → p ≡ pick (eqb b 32) 1 0 → q ≡ pick (eqb b 10) 1 0 → (p + q ≡ 0 → ⊥) → is_mark c ≡ true → is_calm b c ≡ true
  unfolding is_calm is_space one_of
  stirs-space p q e f n h = or_right (is_mark b) (is_space b && is_mark c) (go (eqb b 32) refl (eqb b 10) refl)
    where
      go : (x : Bool) → eqb b 32 ≡ x → (y : Bool) → eqb b 10 ≡ y → (is_space b && is_mark c) ≡ true
      go true u y v = rw (eqb-true b 32 u, h)
      go false u true v = rw (eqb-true b 10 v, h)
      go false u false v = let p0 : p ≡ 0 = e ∙ rw u in let q0 : q ≡ 0 = f ∙ rw v in absurd (n (omega (arith, p0, q0)))

  pub calm-elim : (C : Type 0) → is_calm b c ≡ true → (is_mark b ≡ true → C) → (is_space b ≡ true → is_mark c ≡ true → C) → C
  unfolding is_calm
  calm-elim C h f g = or_elim (is_mark b) (is_space b && is_mark c) C h f (λ m. g (and_left (is_space b) (is_mark c) m) (and_right (is_space b) (is_mark c) m))

-- ---- the character that a calm byte is

module _ (b : ℕ) where
  pub soft-mark : is_mark b ≡ true → soft b ≡ b
  unfolding soft
  soft-mark h = rw (le-ltb b 33 (mark-least b h))

  pub soft-white : is_space b ≡ true → soft b ≡ 32
  unfolding soft
  soft-white h = rw (lt-ltb b 33 (white b (λ (x : ℕ). x < 33) h (omega arith) (omega arith) (omega arith) (omega arith)))

  module _ (c : ℕ) (h : is_calm b c ≡ true) where
    pub soft-least : 32 ≤ soft b
    soft-least = calm-elim b c (32 ≤ soft b) h (λ m. omega (arith, soft-mark m, mark-least b m)) (λ w m. omega (arith, soft-white w))

    pub soft-most : soft b ≤ 126
    soft-most = calm-elim b c (soft b ≤ 126) h (λ m. omega (arith, soft-mark m, mark-most b m)) (λ w m. omega (arith, soft-white w))
