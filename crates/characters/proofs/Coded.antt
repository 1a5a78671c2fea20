-- The numbers that UTF-8 writes, and the bytes of one at a place.
--     coded-here, coded_none     so many bytes, where those of one stand; and none, where those of none do
--     coded-low, coded-legal     a byte below 128, and a character
--     coded-nowhere              past the end
--     coded-other                what is left: 0xFFFE and 0xFFFF, or nothing
--     coded-steps                where one stands, its bytes are inside
use Prim.Native.Nat.{ℕ, ◌+◌, ◌≤◌, ◌<◌}
use mathlib.Core.Path.{◌≡◌, refl, sym, ap, ◌∙◌}
use mathlib.Core.Bool.{Bool, true, false, ◌&&◌, true≢false}
use mathlib.Core.List.{List, [], ◌∷◌}
use native.Mathlib.Omega.{arith}
use native.Mathlib.Decide.{dec_lt}
use lib.ListN.{length}
use lib.Dec.{leb}
use borrow.Author.Tests.{le-leb, leb-true, lt-leb}
use Rattle.octets.specs.Bytes.{pick, between, byte_at, stands}
use Rattle.octets.proofs.Sames.{stands-in}
use Rattle.octets.proofs.Tests.{and_left, and_right, or_elim, between_is, between-low, between-high}
use Rattle.characters.specs.Utf8.{is_legal, encoded, width, written, scalar_at, width_at, is_coded, coded_at, coded_width}
use Rattle.characters.proofs.Legals.{legal-some, legal-most, legal-basic, legal-half, legal-upper, legal-high}
use Rattle.characters.proofs.Forms.{Form, one, two, three, four, forms, form-written, stands-byte, encoded-one, width_some, stood, scalar-back}
use Rattle.characters.proofs.Places.{width_is}

-- ---- which they are

pub coded-basic : (c : ℕ) → c ≤ 55295 → is_coded c ≡ true
unfolding is_coded
coded-basic c h = rw (le-leb c 55295 h)

pub coded-upper : (c : ℕ) → 57344 ≤ c → c ≤ 1114111 → is_coded c ≡ true
unfolding is_coded
coded-upper c l h = rw (lt-leb c 55295 (omega arith), between_is 57344 1114111 c l h)

-- a character is one
pub legal-coded : (c : ℕ) → is_legal c ≡ true → is_coded c ≡ true
legal-coded c e = go (dec_lt 55295 c) (dec_lt c 57344)
  where
    go : Dec (55295 < c) → Dec (c < 57344) → is_coded c ≡ true
    go (no a) y = coded-basic c (omega arith)
    go (yes a) (yes b) = absurd (true≢false (sym e ∙ sym (legal-half c a b)))
    go (yes a) (no b) = coded-upper c (omega arith) (legal-most c e)

-- and of those from 32 on only two are none
pub coded-but : (c : ℕ) → is_coded c ≡ true → 32 ≤ c → (c ≡ 65534 → ⊥) → (c ≡ 65535 → ⊥) → is_legal c ≡ true
unfolding is_coded
coded-but c h l p q =
    or_elim (leb c 55295) (between 57344 1114111 c) (is_legal c ≡ true) h
    (λ e. sym (legal-basic c l (leb-true c 55295 e)))
    (λ e. go (between-low 57344 1114111 c e) (between-high 57344 1114111 c e) (dec_lt c 65534) (dec_lt c 65536))
  where
    go : 57344 ≤ c → c ≤ 1114111 → Dec (c < 65534) → Dec (c < 65536) → is_legal c ≡ true
    go a b (yes x) y = sym (legal-upper c a (omega arith))
    go a b (no x) (yes y) = absurd (omega arith)
    go a b (no x) (no y) = sym (legal-high c (omega arith)) ∙ le-leb c 1114111 b

-- ---- at a place

module _ (s : List ℕ) (i : ℕ) where
  pub coded-here : (c : ℕ) → is_coded c ≡ true → stands (encoded c) s i ≡ true → width c ≡ coded_width s i
  unfolding coded_width coded_at
  coded-here c e h = rw (form-written s i c (forms s i c h), e, h)

  pub coded_none : ((c : ℕ) → is_coded c ≡ true → stands (encoded c) s i ≡ true → ⊥) → 0 ≡ coded_width s i
  unfolding coded_width coded_at
  coded_none n = go (is_coded w && stands (encoded w) s i) refl
    where
      w : ℕ
      w = written s i

      go : (b : Bool) → (is_coded w && stands (encoded w) s i) ≡ b → 0 ≡ pick (is_coded w && stands (encoded w) s i) (width w) 0
      go true e = absurd (n w (and_left (is_coded w) (stands (encoded w) s i) e) (and_right (is_coded w) (stands (encoded w) s i) e))
      go false e = rw e

  pub coded-nowhere : length s ≤ i → 0 ≡ coded_width s i
  coded-nowhere h = coded_none (λ c e t. let w = width_some c in let l = stands-in (encoded c) s i t w in omega arith)

  pub coded-low : i < length s → byte_at s i < 128 → 1 ≡ coded_width s i
  coded-low l h =
      let b = byte_at s i in
      let e = encoded-one b h in
      sym (ap length e) ∙ coded-here b (coded-basic b (omega arith)) (rw e (stands-byte s i l))

  pub coded-legal : (width_at s i ≡ 0 → ⊥) → width_at s i ≡ coded_width s i
  unfolding width_at
  coded-legal n = go (dec_lt 0 (scalar_at s i))
    where
      go : Dec (0 < scalar_at s i) → width_at s i ≡ coded_width s i
      go (yes z) = let k = stood s i z in width_is s i z ∙ coded-here (scalar_at s i) (legal-coded (scalar_at s i) k.legal) k.there
      go (no z) = let e : scalar_at s i ≡ 0 = omega arith in absurd (n (rw e))

  -- a number from 128 on, where such a byte is
  wide : (c : ℕ) → 128 ≤ byte_at s i → Form s i c → 128 ≤ c
  wide c h (one a p) = omega arith
  wide c h (two l a p q) = l
  wide c h (three l a p q r) = omega arith
  wide c h (four l p q r t) = omega arith

  pub coded-other : 128 ≤ byte_at s i → width_at s i ≡ 0 → stands (239 ∷ 191 ∷ 190 ∷ []) s i ≡ false → stands (239 ∷ 191 ∷ 191 ∷ []) s i ≡ false
      → 0 ≡ coded_width s i
  unfolding encoded
  coded-other h z p q = coded_none (λ c e t.
      let l = wide c h (forms s i c t) in
      let k = coded-but c e (omega arith) (λ x. true≢false (sym (rw x at t) ∙ p)) (λ x. true≢false (sym (rw x at t) ∙ q)) in
      let y = scalar-back s i c (record { legal = k; there = t }) in
      let m = legal-some c k in
      let x = width_is s i (omega arith) in
      let w = width_some (scalar_at s i) in
      omega arith)

  pub record CodedSteps : Type 0 where
    pub on : 1 ≤ coded_width s i
    pub in-it : i + coded_width s i ≤ length s

  pub coded-steps : coded_at s i ≡ true → CodedSteps
  unfolding coded_at
  coded-steps h =
      let c = written s i in
      let t = and_right (is_coded c) (stands (encoded c) s i) h in
      let e = coded-here c (and_left (is_coded c) (stands (encoded c) s i) h) t in
      let w = width_some c in
      let l = stands-in (encoded c) s i t w in
      record { on = omega arith; in-it = omega arith }
