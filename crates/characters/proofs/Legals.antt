-- Which numbers are characters, range by range.
use Prim.Native.Nat.{ℕ, ◌≤◌, ◌<◌}
use mathlib.Core.Path.{◌≡◌, sym, ◌∙◌}
use mathlib.Core.Bool.{Bool, true, false, ◌&&◌, or-false}
use mathlib.Core.List.{[], ◌∷◌}
use native.Mathlib.Omega.{arith}
use native.Mathlib.Decide.{dec_lt}
use lib.Dec.{leb, ltb}
use borrow.Author.Tests.{ne_eqb, le-leb, lt-leb, lt-ltb, le-ltb}
use Rattle.octets.specs.Bytes.{between, every, one_of, is_space}
use Rattle.octets.proofs.Tests.{between_is, below-between, above-between}
use Rattle.characters.specs.Utf8.{is_legal, is_single}

not_first : (c : ℕ) → 13 < c → one_of (9 ∷ 10 ∷ 13 ∷ []) c ≡ false
unfolding one_of
not_first c h = rw (ne_eqb c 9 (omega arith), ne_eqb c 10 (omega arith), ne_eqb c 13 (omega arith))

pub legal-low : (c : ℕ) → c < 32 → is_space c ≡ is_legal c
unfolding is_legal is_space one_of
legal-low c h = rw (ne_eqb c 32 (omega arith), below-between 32 55295 c h, below-between 57344 65533 c (omega arith), below-between 65536 1114111 c (omega arith), or-false, or-false, or-false, or-false)

pub legal-basic : (c : ℕ) → 32 ≤ c → c ≤ 55295 → true ≡ is_legal c
unfolding is_legal
legal-basic c l h = rw (not_first c (omega arith), between_is 32 55295 c l h)

-- a half of a pair
pub legal-half : (c : ℕ) → 55295 < c → c < 57344 → false ≡ is_legal c
unfolding is_legal
legal-half c l h = rw (not_first c (omega arith), above-between 32 55295 c l, below-between 57344 65533 c h, below-between 65536 1114111 c (omega arith))

pub legal-upper : (c : ℕ) → 57344 ≤ c → c ≤ 65533 → true ≡ is_legal c
unfolding is_legal
legal-upper c l h = rw (not_first c (omega arith), above-between 32 55295 c (omega arith), between_is 57344 65533 c l h)

-- 0xFFFE and 0xFFFF
pub legal-none : (c : ℕ) → 65533 < c → c < 65536 → false ≡ is_legal c
unfolding is_legal
legal-none c l h = rw (not_first c (omega arith), above-between 32 55295 c (omega arith), above-between 57344 65533 c l, below-between 65536 1114111 c h)

pub legal-high : (c : ℕ) → 65536 ≤ c → leb c 1114111 ≡ is_legal c
unfolding is_legal between every
legal-high c l = rw (not_first c (omega arith), lt-leb c 55295 (omega arith), lt-leb c 65533 (omega arith), le-leb 65536 c l, le-leb 32 c (omega arith), le-leb 57344 c (omega arith), mathlib.Core.Bool.and-true)

-- ---- a character is not 0, and at most 0x10FFFF

pub legal-some : (c : ℕ) → is_legal c ≡ true → 0 < c
unfolding is_legal one_of between every
legal-some c h = go (dec_lt 0 c)
  where
    go : Dec (0 < c) → 0 < c
    go (yes l) = l
    go (no l) = let e : c ≡ 0 = omega arith in let z : false ≡ true = rw e at h in absurd (mathlib.Core.Bool.false≢true z)

pub legal-most : (c : ℕ) → is_legal c ≡ true → c ≤ 1114111
legal-most c h = go (dec_lt 1114111 c)
  where
    go : Dec (1114111 < c) → c ≤ 1114111
    go (yes l) = let z : true ≡ false = sym h ∙ sym (legal-high c (omega arith)) ∙ lt-leb c 1114111 l in absurd (mathlib.Core.Bool.true≢false z)
    go (no l) = omega arith

-- ---- by a byte, and by a character

pub single-low : (b : ℕ) → b < 32 → is_space b ≡ is_single b
unfolding is_single
single-low b h = rw (lt-ltb b 128 (omega arith)) (legal-low b h)

pub single-high : (b : ℕ) → 32 ≤ b → ltb b 128 ≡ is_single b
unfolding is_single
single-high b h = go (dec_lt b 128)
  where
    go : Dec (b < 128) → ltb b 128 ≡ (ltb b 128 && is_legal b)
    go (yes l) = rw (lt-ltb b 128 l) (legal-basic b h (omega arith))
    go (no l) = rw (le-ltb b 128 (omega arith))

pub space-high : (c : ℕ) → 32 < c → false ≡ is_space c
unfolding is_space one_of
space-high c h = rw (ne_eqb c 9 (omega arith), ne_eqb c 10 (omega arith), ne_eqb c 13 (omega arith), ne_eqb c 32 (omega arith))
