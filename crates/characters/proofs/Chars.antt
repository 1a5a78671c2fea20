-- The characters of a run of bytes, one by one.
--     chars-back         the characters of a text's bytes are the text
--     scalar-encoded     and of one character's bytes, that character
use Prim.Native.Nat.{ℕ, zero, suc, ◌+◌, ◌≤◌, ◌<◌}
use mathlib.Core.Path.{◌≡◌, refl, sym, ap, ◌∙◌}
use mathlib.Core.Bool.{true}
use mathlib.Core.List.{List, [], ◌∷◌}
use native.Mathlib.Omega.{arith}
use lib.ListN.{length, take, drop, length-drop}
use lib.Seq.{take_all, take_at, drop_at, drop-drop}
use borrow.Author.Tests.{eq-eqb, ne_eqb}
use Rattle.octets.specs.Bytes.{every, same, stands}
use Rattle.octets.proofs.Sames.{same_refl, stands-in}
use Rattle.octets.proofs.Tests.{every_first, every_rest}
use Rattle.characters.specs.Utf8.{is_legal, encoded, width, utf8, scalar_at}
use Rattle.characters.specs.Chars.{chars_from, chars_of}
use Rattle.characters.proofs.Legals.{legal-some}
use Rattle.characters.proofs.Forms.{formed, none-stands, scalar-back, width_some}
use Rattle.characters.proofs.Texts.{utf8-least}

-- ---- by what stands at the place

pub chars-more : (s : List ℕ) (n i : ℕ) → 0 < scalar_at s i → chars_from s (suc n) i ≡ scalar_at s i ∷ chars_from s n (i + width (scalar_at s i))
unfolding chars_from
chars-more s n i z = let d : scalar_at s i ≡ 0 → ⊥ = omega arith in rw (ne_eqb (scalar_at s i) 0 d)

pub chars-end : (s : List ℕ) (n i : ℕ) → scalar_at s i ≡ 0 → chars_from s n i ≡ []
unfolding chars_from
chars-end s zero i e = refl
chars-end s (suc n) i e = rw (eq-eqb (scalar_at s i) 0 e)

-- past the end none stands
pub scalar-past : (s : List ℕ) (i : ℕ) → length s ≤ i → scalar_at s i ≡ 0
scalar-past s i h = sym (none-stands s i (λ c k f.
    let w = width_some c in
    let l = stands-in (encoded c) s i (formed s i c (legal-some c k) f) w in
    omega arith))

-- ---- the characters of a text's bytes

back_from : (s cs : List ℕ) (n i : ℕ) → every is_legal cs ≡ true → drop i s ≡ utf8 cs → length cs ≤ n → length s ≤ i + n → chars_from s n i ≡ cs
unfolding utf8
back_from s [] n i h d l r = chars-end s n i (scalar-past s i (omega (arith, simp length-drop at (ap length d))))
back_from s (c ∷ cs) zero i h d l r = absurd (omega arith)
back_from s (c ∷ cs) (suc n) i h d l r =
    let legal = every_first is_legal c cs h in
    let there : stands (encoded c) s i ≡ true = ap (λ (x : List ℕ). same x (encoded c)) (ap (take (width c)) d ∙ take_at (encoded c) (utf8 cs) (width c) refl) ∙ same_refl (encoded c) in
    let e : scalar_at s i ≡ c = scalar-back s i c (record { legal = legal; there = there }) in
    let z = legal-some c legal in
    let w = width_some c in
    let f : drop (i + width c) s ≡ utf8 cs = sym (drop-drop (width c) i s) ∙ ap (drop (width c)) d ∙ drop_at (encoded c) (utf8 cs) (width c) refl in
    chars-more s n i (omega arith)
    ∙ ap (λ (b : ℕ). b ∷ chars_from s n (i + width b)) e
    ∙ ap (λ (b : List ℕ). c ∷ b) (back_from s cs n (i + width c) (every_rest is_legal c cs h) f (omega arith) (omega arith))

pub chars-back : (cs : List ℕ) → every is_legal cs ≡ true → chars_of (utf8 cs) ≡ cs
unfolding chars_of
chars-back cs h = back_from (utf8 cs) cs (length (utf8 cs)) 0 h refl (utf8-least cs) (omega arith)

-- one character by itself
pub scalar-encoded : (c : ℕ) → is_legal c ≡ true → scalar_at (encoded c) 0 ≡ c
scalar-encoded c h = scalar-back (encoded c) 0 c (record { legal = h; there = ap (λ (x : List ℕ). same x (encoded c)) (take_all (width c) (encoded c) (omega arith)) ∙ same_refl (encoded c) })
