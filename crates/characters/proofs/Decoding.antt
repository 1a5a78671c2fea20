-- What the reader of a character learns from its bytes.
--     joined_is, joined-some, joined-most              one byte behind others
--     one-read, two-read, three-read, four-read        the number that they write is the character, if it is legal and no fewer bytes write it
--     none_read                                        128 to 191 begin none
use Prim.Native.Nat.{ℕ, ◌+◌, ◌-◌, ◌*◌, ◌≤◌, ◌<◌}
use mathlib.Core.Path.{◌≡◌, refl, sym, ◌∙◌}
use mathlib.Core.Bool.{Bool, true, false, ◌&&◌}
use mathlib.Core.List.{List}
use native.Mathlib.Omega.{arith}
use native.Mathlib.Decide.{dec_lt}
use lib.Dec.{leb}
use borrow.Author.Tests.{le-leb, lt-leb}
use Rattle.octets.specs.Bytes.{pick, between, byte_at}
use Rattle.octets.proofs.Tests.{between_is, between-low, between-high}
use Rattle.characters.specs.Utf8.{is_legal, joined, scalar_at}
use Rattle.characters.specs.WorkingUtf8.{joined_at, legal_from}
use Rattle.characters.proofs.Forms.{Form, one, none-stands, decided, no-first, Tails, as-two, as-three, as-four, form-two, form-three, form-four}

-- ---- one byte more

module _ (s : List ℕ) (i n : ℕ) where
  pub joined_is : Tails (byte_at s i) → joined_at s i n ≡ joined n (byte_at s i)
  unfolding joined_at
  joined_is t = rw (between_is 128 191 (byte_at s i) t.low t.high)

  -- where more is written than nothing, such a byte stands
  pub joined-some : 0 < joined_at s i n → Tails (byte_at s i)
  unfolding joined_at
  joined-some z = go (between 128 191 (byte_at s i)) refl
    where
      go : (b : Bool) → between 128 191 (byte_at s i) ≡ b → Tails (byte_at s i)
      go true e = record { low = between-low 128 191 (byte_at s i) e; high = between-high 128 191 (byte_at s i) e }
      go false e = let q : 0 < 0 = rw e at z in absurd (omega arith)

  pub joined-most : joined_at s i n ≤ 64 * n + 63
  unfolding joined_at
  joined-most = go (between 128 191 (byte_at s i)) refl
    where
      go : (b : Bool) → between 128 191 (byte_at s i) ≡ b → joined_at s i n ≤ 64 * n + 63
      go true e = rw e (omega (arith, between-high 128 191 (byte_at s i) e))
      go false e = rw e (omega arith)

-- ---- all of them

-- v is what every character is whose bytes stand at i, which is not below `least`, and if v is not, its bytes stand there
settled : (s : List ℕ) (i least v : ℕ) → ((c : ℕ) → Form s i c → (least ≤ c) × (c ≡ v)) → (least ≤ v → Form s i v) → legal_from least v ≡ scalar_at s i
unfolding legal_from
settled s i least v forth back = go (dec_lt v least)
  where
    go : Dec (v < least) → pick (leb least v && is_legal v) v 0 ≡ scalar_at s i
    go (yes l) = rw (lt-leb least v l) (none-stands s i (λ c k f. let q = forth c f in omega (arith, q.0, q.1)))
    go (no l) = let m : least ≤ v = omega arith in rw (le-leb least v m) (decided s i v (back m))

-- a is the first byte, x and y what it and those behind it write so far, and v what all of them write
module _ (s : List ℕ) (i : ℕ) where
  pub one-read : {a : ℕ} → a ≡ byte_at s i → a < 128 → legal_from 0 a ≡ scalar_at s i
  unfolding legal_from
  one-read {a} p h = rw (le-leb 0 a (omega arith)) (decided s i a (one h (sym p)))

  pub none_read : {a : ℕ} → a ≡ byte_at s i → 128 ≤ a → a < 192 → 0 ≡ scalar_at s i
  none_read p l h = none-stands s i (λ c k f. no-first s i c (omega arith) (omega arith) f)

  pub two-read : {a v : ℕ} → a ≡ byte_at s i → v ≡ joined_at s (i + 1) (a - 192) → 192 ≤ a → a < 224 → legal_from 128 v ≡ scalar_at s i
  two-read {a} {v} p e l h =
      settled s i 128 v
      (λ c f. let t = as-two s i c (omega arith) (omega arith) f in (t.least, t.is ∙ sym (whole t.second)))
      (λ m. let t = joined-some s (i + 1) (a - 192) (omega arith) in rw (whole t) (form-two s i (omega arith) (omega arith) t (rw (whole t) at m)))
    where
      whole : Tails (byte_at s (i + 1)) → v ≡ joined (byte_at s i - 192) (byte_at s (i + 1))
      whole t = e ∙ rw (joined_is s (i + 1) (a - 192) t, p)

  pub three-read : {a x v : ℕ} → a ≡ byte_at s i → x ≡ joined_at s (i + 1) (a - 224) → v ≡ joined_at s (i + 2) x → 224 ≤ a → a < 240 → legal_from 2048 v ≡ scalar_at s i
  three-read {a} {x} {v} p d e l h =
      settled s i 2048 v
      (λ c f. let t = as-three s i c (omega arith) (omega arith) f in (t.least, t.is ∙ sym (whole t.second t.third)))
      (λ m.
      let b = joined-most s (i + 2) x in
      let t = joined-some s (i + 1) (a - 224) (omega arith) in
      let u = joined-some s (i + 2) x (omega arith) in
      rw (whole t u) (form-three s i (omega arith) (omega arith) t u (rw (whole t u) at m)))
    where
      whole : Tails (byte_at s (i + 1)) → Tails (byte_at s (i + 2)) → v ≡ joined (joined (byte_at s i - 224) (byte_at s (i + 1))) (byte_at s (i + 2))
      whole t u = e ∙ rw (joined_is s (i + 2) x u, d, joined_is s (i + 1) (a - 224) t, p)

  pub four-read : {a x y v : ℕ} → a ≡ byte_at s i → x ≡ joined_at s (i + 1) (a - 240) → y ≡ joined_at s (i + 2) x → v ≡ joined_at s (i + 3) y → 240 ≤ a
      → legal_from 65536 v ≡ scalar_at s i
  four-read {a} {x} {y} {v} p d e g l =
      settled s i 65536 v
      (λ c f. let t = as-four s i c (omega arith) f in (t.least, t.is ∙ sym (whole t.second t.third t.fourth)))
      (λ m.
      let b = joined-most s (i + 2) x in
      let k = joined-most s (i + 3) y in
      let t = joined-some s (i + 1) (a - 240) (omega arith) in
      let u = joined-some s (i + 2) x (omega arith) in
      let w = joined-some s (i + 3) y (omega arith) in
      rw (whole t u w) (form-four s i (omega arith) t u w (rw (whole t u w) at m)))
    where
      whole : Tails (byte_at s (i + 1)) → Tails (byte_at s (i + 2)) → Tails (byte_at s (i + 3))
          → v ≡ joined (joined (joined (byte_at s i - 240) (byte_at s (i + 1))) (byte_at s (i + 2))) (byte_at s (i + 3))
      whole t u w = g ∙ rw (joined_is s (i + 3) y w, e, joined_is s (i + 2) x u, d, joined_is s (i + 1) (a - 240) t, p)
