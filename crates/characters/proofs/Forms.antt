-- The bytes of a character at a place.
--     Form, forms, formed      what the bytes at i are where those of c stand there, by how many they are; and back
--     decided, none-stands     so the character there is c, if c is legal; and there is none, if no character's bytes can stand there
--     stood, scalar-in         a character's bytes stand where it is read, inside the run
--     scalar-back              and it is read where they stand
use Prim.Native.Nat.{ℕ, suc, ◌+◌, ◌-◌, ◌/◌, ◌≤◌, ◌<◌}
use mathlib.Core.Path.{◌≡◌, refl, sym, ap, ◌∙◌}
use mathlib.Core.Bool.{Bool, true, false, ◌&&◌}
use mathlib.Core.List.{List, [], ◌∷◌}
use native.Mathlib.Nat.{add-zero}
use native.Mathlib.Omega.{arith}
use native.Mathlib.Decide.{dec_lt}
use lib.ListN.{length, take, drop, get_or}
use lib.Seq.{get_or-take, get_or-drop}
use lib.Dec.{ltb}
use borrow.Author.Tests.{lt-ltb, le-ltb}
use Rattle.octets.specs.Bytes.{pick, byte_at, same, stands}
use Rattle.octets.proofs.Parts.{tail_step}
use Rattle.octets.proofs.Sames.{same_step, same_none, stands-is, stands-in}
use Rattle.octets.proofs.Scans.{inside}
use Rattle.octets.proofs.Tests.{and_left, and_right}
use Rattle.characters.specs.Utf8.{is_legal, tail, encoded, width, joined, written, scalar_at}
use Rattle.characters.proofs.Legals.{legal-some}

-- ---- a character's bytes, by how many they are

abbrev last : ℕ → List ℕ
last c = tail c ∷ []

abbrev last-two : ℕ → List ℕ
last-two c = tail (c / 64) ∷ last c

abbrev last-three : ℕ → List ℕ
last-three c = tail (c / 64 / 64) ∷ last-two c

pub encoded-one : (c : ℕ) → c < 128 → encoded c ≡ c ∷ []
unfolding encoded
encoded-one c h = rw (lt-ltb c 128 h)

pub encoded-two : (c : ℕ) → 128 ≤ c → c < 2048 → encoded c ≡ (192 + c / 64) ∷ last c
unfolding encoded
encoded-two c l h = rw (le-ltb c 128 l, lt-ltb c 2048 h)

pub encoded-three : (c : ℕ) → 2048 ≤ c → c < 65536 → encoded c ≡ (224 + c / 64 / 64) ∷ last-two c
unfolding encoded
encoded-three c l h = rw (le-ltb c 128 (omega arith), le-ltb c 2048 l, lt-ltb c 65536 h)

pub encoded-four : (c : ℕ) → 65536 ≤ c → encoded c ≡ (240 + c / 64 / 64 / 64) ∷ last-three c
unfolding encoded
encoded-four c l = rw (le-ltb c 128 (omega arith), le-ltb c 2048 (omega arith), le-ltb c 65536 l)

pub by_size : (c : ℕ) (P : Type 0) → (c < 128 → P) → (128 ≤ c → c < 2048 → P) → (2048 ≤ c → c < 65536 → P) → (65536 ≤ c → P) → P
by_size c P f g h k = go (dec_lt c 128) (dec_lt c 2048) (dec_lt c 65536)
  where
    go : Dec (c < 128) → Dec (c < 2048) → Dec (c < 65536) → P
    go (yes a) y z = f a
    go (no a) (yes b) z = g (omega arith) b
    go (no a) (no b) (yes d) = h (omega arith) d
    go (no a) (no b) (no d) = k (omega arith)

-- ---- a run that stands, byte by byte

pub byte-in : (t s : List ℕ) (i k : ℕ) → stands t s i ≡ true → k < length t → byte_at s (i + k) ≡ get_or t k 0
byte-in t s i k h l = sym (get_or-take (length t) (drop i s) k 0 l ∙ get_or-drop i s k 0) ∙ ap (λ (x : List ℕ). get_or x k 0) (stands-is t s i h)

pub here : (s : List ℕ) (i x : ℕ) → 0 < x → byte_at s i ≡ x → i < length s
here s i x z e = inside (ltb 0) s i refl (lt-ltb 0 (byte_at s i) (omega arith))

stands-none : (s : List ℕ) (i : ℕ) → stands [] s i ≡ true
stands-none s i = same_none

stands_on : (x : ℕ) (t s : List ℕ) (i j : ℕ) → i < length s → byte_at s i ≡ x → i + 1 ≡ j → stands t s j ≡ true → stands (x ∷ t) s i ≡ true
stands_on x t s i j l e f h =
    ap (λ (r : List ℕ). same (take (suc (length t)) r) (x ∷ t)) (tail_step s i l)
    ∙ same_step (byte_at s i) x (take (length t) (drop (i + 1) s)) t e
    ∙ ap (λ (k : ℕ). stands t s k) f
    ∙ h

stands-more : (x : ℕ) (t s : List ℕ) (i j : ℕ) → 0 < x → byte_at s i ≡ x → i + 1 ≡ j → stands t s j ≡ true → stands (x ∷ t) s i ≡ true
stands-more x t s i j z e f h = stands_on x t s i j (here s i x z e) e f h

-- a byte by itself, which may be 0
pub stands-byte : (s : List ℕ) (i : ℕ) → i < length s → stands (byte_at s i ∷ []) s i ≡ true
stands-byte s i l = stands_on (byte_at s i) [] s i (i + 1) l refl refl (stands-none s (i + 1))

-- ---- where the bytes of c stand

pub data Form (s : List ℕ) (i c : ℕ) : Type 0 where
  one : c < 128 → byte_at s i ≡ c → Form s i c
  two : 128 ≤ c → c < 2048 → byte_at s i ≡ 192 + c / 64 → byte_at s (i + 1) ≡ tail c → Form s i c
  three : 2048 ≤ c → c < 65536 → byte_at s i ≡ 224 + c / 64 / 64 → byte_at s (i + 1) ≡ tail (c / 64) → byte_at s (i + 2) ≡ tail c → Form s i c
  four : 65536 ≤ c → byte_at s i ≡ 240 + c / 64 / 64 / 64 → byte_at s (i + 1) ≡ tail (c / 64 / 64) → byte_at s (i + 2) ≡ tail (c / 64) → byte_at s (i + 3) ≡ tail c → Form s i c

module _ (s : List ℕ) (i c : ℕ) where
  pub forms : stands (encoded c) s i ≡ true → Form s i c
  forms h =
      by_size c (Form s i c)
      (λ a. let t = c ∷ [] in let q : stands t s i ≡ true = rw (encoded-one c a) at h in one a (at-start t q (omega arith)))
      (λ l a. let t = (192 + c / 64) ∷ last c in let q : stands t s i ≡ true = rw (encoded-two c l a) at h in two l a (at-start t q (omega arith)) (byte-in t s i 1 q (omega arith)))
      (λ l a. let t = (224 + c / 64 / 64) ∷ last-two c in let q : stands t s i ≡ true = rw (encoded-three c l a) at h in
      three l a (at-start t q (omega arith)) (byte-in t s i 1 q (omega arith)) (byte-in t s i 2 q (omega arith)))
      (λ l. let t = (240 + c / 64 / 64 / 64) ∷ last-three c in let q : stands t s i ≡ true = rw (encoded-four c l) at h in
      four l (at-start t q (omega arith)) (byte-in t s i 1 q (omega arith)) (byte-in t s i 2 q (omega arith)) (byte-in t s i 3 q (omega arith)))
    where
      at-start : (t : List ℕ) → stands t s i ≡ true → 0 < length t → byte_at s i ≡ get_or t 0 0
      at-start t q l = ap (byte_at s) (sym (add-zero i)) ∙ byte-in t s i 0 q l

  at_last : (k : ℕ) → byte_at s k ≡ tail c → stands (last c) s k ≡ true
  at_last k p = stands-more (tail c) [] s k (k + 1) (omega arith) p refl (stands-none s (k + 1))

  at-last-two : (k m : ℕ) → k + 1 ≡ m → byte_at s k ≡ tail (c / 64) → byte_at s m ≡ tail c → stands (last-two c) s k ≡ true
  at-last-two k m e p q = stands-more (tail (c / 64)) (last c) s k m (omega arith) p e (at_last m q)

  pub formed : 0 < c → Form s i c → stands (encoded c) s i ≡ true
  formed z (one a p) = rw (encoded-one c a) (stands-more c [] s i (i + 1) z p refl (stands-none s (i + 1)))
  formed z (two l a p q) = rw (encoded-two c l a) (stands-more (192 + c / 64) (last c) s i (i + 1) (omega arith) p refl (at_last (i + 1) q))
  formed z (three l a p q r) =
      rw (encoded-three c l a) (stands-more (224 + c / 64 / 64) (last-two c) s i (i + 1) (omega arith) p refl (at-last-two (i + 1) (i + 2) (omega arith) q r))
  formed z (four l p q r t) =
      rw (encoded-four c l)
      (stands-more (240 + c / 64 / 64 / 64) (last-three c) s i (i + 1) (omega arith) p refl
      (stands-more (tail (c / 64 / 64)) (last-two c) s (i + 1) (i + 2) (omega arith) q (omega arith) (at-last-two (i + 2) (i + 3) (omega arith) r t)))

-- ---- what they write

-- six bits cut off and put back
pub split : (n : ℕ) → joined (n / 64) (tail n) ≡ n
split n = omega arith

first_two : (c : ℕ) → c < 2048 → 192 + c / 64 < 224
first_two c h = omega arith

first_three : (c : ℕ) → c < 65536 → 224 + c / 64 / 64 < 240
first_three c h = omega arith

less : (n k : ℕ) → n + k - n ≡ k
less n k = omega arith

pub form-written : (s : List ℕ) (i c : ℕ) → Form s i c → written s i ≡ c
unfolding written
form-written s i c (one a p) = rw (p, lt-ltb c 128 a)
form-written s i c (two l a p q) =
    rw (p, q, le-ltb (192 + c / 64) 128 (omega arith), lt-ltb (192 + c / 64) 224 (first_two c a), less 192 (c / 64)) (split c)
form-written s i c (three l a p q r) =
    rw (p, q, r, le-ltb (224 + c / 64 / 64) 128 (omega arith), le-ltb (224 + c / 64 / 64) 224 (omega arith), lt-ltb (224 + c / 64 / 64) 240 (first_three c a), less 224 (c / 64 / 64), split (c / 64)) (split c)
form-written s i c (four l p q r t) =
    rw (p, q, r, t, le-ltb (240 + c / 64 / 64 / 64) 128 (omega arith), le-ltb (240 + c / 64 / 64 / 64) 224 (omega arith), le-ltb (240 + c / 64 / 64 / 64) 240 (omega arith), less 240 (c / 64 / 64 / 64), split (c / 64 / 64), split (c / 64)) (split c)

-- ---- the character at a place

module _ (s : List ℕ) (i : ℕ) where
  pub decided : (c : ℕ) → Form s i c → pick (is_legal c) c 0 ≡ scalar_at s i
  unfolding scalar_at
  decided c f = rw (form-written s i c f) (go (is_legal c) refl)
    where
      go : (b : Bool) → is_legal c ≡ b → pick (is_legal c) c 0 ≡ pick (is_legal c && stands (encoded c) s i) c 0
      go true e = rw (e, formed s i c (legal-some c e) f)
      go false e = rw e

  pub none-stands : ((c : ℕ) → is_legal c ≡ true → Form s i c → ⊥) → 0 ≡ scalar_at s i
  unfolding scalar_at
  none-stands n = go (is_legal w && stands (encoded w) s i) refl
    where
      w : ℕ
      w = written s i

      go : (b : Bool) → (is_legal w && stands (encoded w) s i) ≡ b → 0 ≡ pick (is_legal w && stands (encoded w) s i) w 0
      go true e = absurd (n w (and_left (is_legal w) (stands (encoded w) s i) e) (forms s i w (and_right (is_legal w) (stands (encoded w) s i) e)))
      go false e = rw e

  pub record Character (c : ℕ) : Type 0 where
    pub legal : is_legal c ≡ true
    pub there : stands (encoded c) s i ≡ true

  pub stood : 0 < scalar_at s i → Character (scalar_at s i)
  unfolding scalar_at
  stood z = go (is_legal w && stands (encoded w) s i) refl
    where
      w : ℕ
      w = written s i

      go : (b : Bool) → (is_legal w && stands (encoded w) s i) ≡ b → Character (pick (is_legal w && stands (encoded w) s i) w 0)
      go true e = rw e (record { legal = and_left (is_legal w) (stands (encoded w) s i) e; there = and_right (is_legal w) (stands (encoded w) s i) e })
      go false e = let q : 0 < 0 = rw e at z in absurd (omega arith)

  pub scalar-back : (c : ℕ) → Character c → scalar_at s i ≡ c
  scalar-back c k = sym (decided c (forms s i c k.there)) ∙ rw k.legal

-- ---- widths

pub width_some : (c : ℕ) → 1 ≤ width c
width_some c =
    by_size c (1 ≤ width c)
    (λ a. rw (encoded-one c a) (omega arith))
    (λ l a. rw (encoded-two c l a) (omega arith))
    (λ l a. rw (encoded-three c l a) (omega arith))
    (λ l. rw (encoded-four c l) (omega arith))

pub width-most : (c : ℕ) → width c ≤ 4
width-most c =
    by_size c (width c ≤ 4)
    (λ a. rw (encoded-one c a) (omega arith))
    (λ l a. rw (encoded-two c l a) (omega arith))
    (λ l a. rw (encoded-three c l a) (omega arith))
    (λ l. rw (encoded-four c l) (omega arith))

pub scalar-in : (s : List ℕ) (i : ℕ) → 0 < scalar_at s i → i + width (scalar_at s i) ≤ length s
scalar-in s i z = stands-in (encoded (scalar_at s i)) s i (stood s i z).there (width_some (scalar_at s i))

-- ---- what the first byte says of a character whose bytes stand

pub record Tails (b : ℕ) : Type 0 where
  pub low : 128 ≤ b
  pub high : b ≤ 191

tails : (b n : ℕ) → b ≡ tail n → Tails b
tails b n e = record { low = omega arith; high = omega arith }

-- 128 to 191 begin no character
pub no-first : (s : List ℕ) (i c : ℕ) → 128 ≤ byte_at s i → byte_at s i < 192 → Form s i c → ⊥
no-first s i c l h (one a p) = omega arith
no-first s i c l h (two k a p q) = omega arith
no-first s i c l h (three k a p q r) = omega arith
no-first s i c l h (four k p q r t) = omega arith

pub record Two (s : List ℕ) (i c : ℕ) : Type 0 where
  pub least : 128 ≤ c
  pub second : Tails (byte_at s (i + 1))
  pub is : c ≡ joined (byte_at s i - 192) (byte_at s (i + 1))

pub as-two : (s : List ℕ) (i c : ℕ) → 192 ≤ byte_at s i → byte_at s i < 224 → Form s i c → Two s i c
as-two s i c l h (one a p) = absurd (omega arith)
as-two s i c l h (two k a p q) = record { least = k; second = tails _ c q; is = sym (rw (p, q, less 192 (c / 64)) (split c)) }
as-two s i c l h (three k a p q r) = absurd (omega arith)
as-two s i c l h (four k p q r t) = absurd (omega arith)

pub record Three (s : List ℕ) (i c : ℕ) : Type 0 where
  pub least : 2048 ≤ c
  pub second : Tails (byte_at s (i + 1))
  pub third : Tails (byte_at s (i + 2))
  pub is : c ≡ joined (joined (byte_at s i - 224) (byte_at s (i + 1))) (byte_at s (i + 2))

pub as-three : (s : List ℕ) (i c : ℕ) → 224 ≤ byte_at s i → byte_at s i < 240 → Form s i c → Three s i c
as-three s i c l h (one a p) = absurd (omega arith)
as-three s i c l h (two k a p q) = let f = first_two c a in absurd (omega arith)
as-three s i c l h (three k a p q r) = record {
  least = k;
  second = tails _ (c / 64) q;
  third = tails _ c r;
  is = sym (rw (p, q, r, less 224 (c / 64 / 64), split (c / 64)) (split c));
}
as-three s i c l h (four k p q r t) = absurd (omega arith)

pub record Four (s : List ℕ) (i c : ℕ) : Type 0 where
  pub least : 65536 ≤ c
  pub second : Tails (byte_at s (i + 1))
  pub third : Tails (byte_at s (i + 2))
  pub fourth : Tails (byte_at s (i + 3))
  pub is : c ≡ joined (joined (joined (byte_at s i - 240) (byte_at s (i + 1))) (byte_at s (i + 2))) (byte_at s (i + 3))

pub as-four : (s : List ℕ) (i c : ℕ) → 240 ≤ byte_at s i → Form s i c → Four s i c
as-four s i c l (one a p) = absurd (omega arith)
as-four s i c l (two k a p q) = let f = first_two c a in absurd (omega arith)
as-four s i c l (three k a p q r) = let f = first_three c a in absurd (omega arith)
as-four s i c l (four k p q r t) = record {
  least = k;
  second = tails _ (c / 64 / 64) q;
  third = tails _ (c / 64) r;
  fourth = tails _ c t;
  is = sym (rw (p, q, r, t, less 240 (c / 64 / 64 / 64), split (c / 64 / 64), split (c / 64)) (split c));
}

-- ---- and back: bytes of the right ranges are those of the number that they write

unsplit-high : (n b : ℕ) → 128 ≤ b → b ≤ 191 → joined n b / 64 ≡ n
unsplit-high n b l h = omega arith

unsplit-low : (n b : ℕ) → 128 ≤ b → b ≤ 191 → b ≡ tail (joined n b)
unsplit-low n b l h = omega arith

back : (n a : ℕ) → n ≤ a → a ≡ n + (a - n)
back n a l = omega arith

pub form-two : (s : List ℕ) (i : ℕ) → 192 ≤ byte_at s i → byte_at s i < 224 → Tails (byte_at s (i + 1)) → let v = joined (byte_at s i - 192) (byte_at s (i + 1)) in 128 ≤ v → Form s i v
form-two s i l h t k =
    let v = joined (byte_at s i - 192) (byte_at s (i + 1)) in
    let m : v < 2048 = let x = t.high in omega arith in
    two k m
    (rw (unsplit-high (byte_at s i - 192) (byte_at s (i + 1)) t.low t.high) (back 192 (byte_at s i) l))
    (unsplit-low (byte_at s i - 192) (byte_at s (i + 1)) t.low t.high)

pub form-three : (s : List ℕ) (i : ℕ) → 224 ≤ byte_at s i → byte_at s i < 240 → Tails (byte_at s (i + 1)) → Tails (byte_at s (i + 2))
    → let v = joined (joined (byte_at s i - 224) (byte_at s (i + 1))) (byte_at s (i + 2)) in 2048 ≤ v → Form s i v
form-three s i l h t u k =
    let x = joined (byte_at s i - 224) (byte_at s (i + 1)) in
    let v = joined x (byte_at s (i + 2)) in
    let m : v < 65536 = let y = t.high in let z = u.high in omega arith in
    let e : v / 64 ≡ x = unsplit-high x (byte_at s (i + 2)) u.low u.high in
    three k m
    (rw (e, unsplit-high (byte_at s i - 224) (byte_at s (i + 1)) t.low t.high) (back 224 (byte_at s i) l))
    (rw e (unsplit-low (byte_at s i - 224) (byte_at s (i + 1)) t.low t.high))
    (unsplit-low x (byte_at s (i + 2)) u.low u.high)

pub form-four : (s : List ℕ) (i : ℕ) → 240 ≤ byte_at s i → Tails (byte_at s (i + 1)) → Tails (byte_at s (i + 2)) → Tails (byte_at s (i + 3))
    → let v = joined (joined (joined (byte_at s i - 240) (byte_at s (i + 1))) (byte_at s (i + 2))) (byte_at s (i + 3)) in 65536 ≤ v → Form s i v
form-four s i l t u w k =
    let x = joined (byte_at s i - 240) (byte_at s (i + 1)) in
    let y = joined x (byte_at s (i + 2)) in
    let v = joined y (byte_at s (i + 3)) in
    let e : v / 64 ≡ y = unsplit-high y (byte_at s (i + 3)) w.low w.high in
    let f : y / 64 ≡ x = unsplit-high x (byte_at s (i + 2)) u.low u.high in
    four k
    (rw (e, f, unsplit-high (byte_at s i - 240) (byte_at s (i + 1)) t.low t.high) (back 240 (byte_at s i) l))
    (rw (e, f) (unsplit-low (byte_at s i - 240) (byte_at s (i + 1)) t.low t.high))
    (rw e (unsplit-low x (byte_at s (i + 2)) u.low u.high))
    (unsplit-low y (byte_at s (i + 3)) w.low w.high)
