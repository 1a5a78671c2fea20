-- The character at a place, by the byte there.
--     low-is, single-is     a byte below 128 is a character by itself or none
--     wide-some             a byte from 128 on begins a character from 128 on, or none
--     Steps, legal-steps    where a character stands, its bytes are inside
use Prim.Native.Nat.{ℕ, ◌+◌, ◌≤◌, ◌<◌}
use mathlib.Core.Path.{◌≡◌, refl, sym, ap, ◌∙◌}
use mathlib.Core.Bool.{true}
use mathlib.Core.List.{List}
use native.Mathlib.Omega.{arith}
use native.Mathlib.Decide.{dec_lt}
use lib.ListN.{length}
use lib.Dec.{ltb}
use borrow.Author.Tests.{ne_eqb, ltb-true}
use Rattle.octets.specs.Bytes.{pick, byte_at}
use Rattle.octets.proofs.Tests.{and_left, and_right}
use Rattle.characters.specs.Utf8.{is_legal, width, scalar_at, width_at, is_single}
use Rattle.characters.proofs.Legals.{legal-some}
use Rattle.characters.proofs.Forms.{Form, one, two, three, four, forms, decided, stood, scalar-in, encoded-one, width_some}

module _ (s : List ℕ) (i : ℕ) where
  pub low-is : byte_at s i < 128 → scalar_at s i ≡ pick (is_legal (byte_at s i)) (byte_at s i) 0
  low-is h = sym (decided s i (byte_at s i) (one h refl))

  pub width_is : 0 < scalar_at s i → width_at s i ≡ width (scalar_at s i)
  unfolding width_at
  width_is z = let d : scalar_at s i ≡ 0 → ⊥ = omega arith in rw (ne_eqb (scalar_at s i) 0 d)

  pub single-is : is_single (byte_at s i) ≡ true → scalar_at s i ≡ byte_at s i
  unfolding is_single
  single-is h =
      let l = ltb-true (byte_at s i) 128 (and_left (ltb (byte_at s i) 128) (is_legal (byte_at s i)) h) in
      low-is l ∙ rw (and_right (ltb (byte_at s i) 128) (is_legal (byte_at s i)) h)

  pub single-width : is_single (byte_at s i) ≡ true → width_at s i ≡ 1
  unfolding is_single
  single-width h =
      let l = ltb-true (byte_at s i) 128 (and_left (ltb (byte_at s i) 128) (is_legal (byte_at s i)) h) in
      let z = legal-some (byte_at s i) (and_right (ltb (byte_at s i) 128) (is_legal (byte_at s i)) h) in
      let e = single-is h in
      width_is (omega arith) ∙ ap width e ∙ ap length (encoded-one (byte_at s i) l)

  pub stands-for : (b : ℕ) → is_single b ≡ true → byte_at s i ≡ b → scalar_at s i ≡ b
  stands-for b h e = single-is (ap is_single e ∙ h) ∙ e

  -- the character's own byte, where it has one
  pub low_byte : 0 < scalar_at s i → scalar_at s i < 128 → byte_at s i ≡ scalar_at s i
  low_byte z h = go (forms s i (scalar_at s i) (stood s i z).there)
    where
      go : Form s i (scalar_at s i) → byte_at s i ≡ scalar_at s i
      go (one a p) = p
      go (two l a p q) = absurd (omega arith)
      go (three l a p q r) = absurd (omega arith)
      go (four l p q r t) = absurd (omega arith)

  pub wide-some : 128 ≤ byte_at s i → 0 < scalar_at s i → 128 ≤ scalar_at s i
  wide-some h z = go (dec_lt (scalar_at s i) 128)
    where
      go : Dec (scalar_at s i < 128) → 128 ≤ scalar_at s i
      go (yes l) = let e = low_byte z l in absurd (omega arith)
      go (no l) = omega arith

  pub record Steps : Type 0 where
    pub is : width_at s i ≡ width (scalar_at s i)
    pub on : 1 ≤ width_at s i
    pub in-it : i + width_at s i ≤ length s

  pub some-steps : 0 < scalar_at s i → Steps
  some-steps z =
      let e = width_is z in
      let w = width_some (scalar_at s i) in
      let l = scalar-in s i z in
      record { is = e; on = omega arith; in-it = omega arith }

  pub legal-steps : is_legal (scalar_at s i) ≡ true → Steps
  legal-steps h = some-steps (legal-some (scalar_at s i) h)
