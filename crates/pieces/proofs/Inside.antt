-- Where a class of bytes goes on, a byte is, since each class that a loop scans lacks 0; and where a run of characters goes on, a character is.
use Prim.Native.Nat.{ℕ, ◌+◌, ◌<◌, ◌≤◌}
use mathlib.Core.Path.{◌≡◌, refl, sym, ap, subst, ◌∙◌}
use mathlib.Core.Bool.{Bool, true, false, ◌&&◌, ◌||◌, not, and-true, and-false, false≢true, or-false}
use mathlib.Core.List.{List, [], ◌∷◌}
use native.Mathlib.Omega.{arith}
use native.Mathlib.Decide.{dec_lt}
use lib.ListN.{length, get_or-eq_default}
use lib.Dec.{eqb, ltb, leb}
use borrow.Author.Tests.{eqb-false, lt-ltb, le-ltb, ne_eqb, le-leb}
use Rattle.octets.specs.Bytes.{pick, byte_at, stands, every, between, one_of, is_digit, is_capital, is_letter, is_space}
use Rattle.octets.specs.Text.{bytes}
use Rattle.octets.proofs.Scans.{inside, ScanningBy, by-starts, by-moves, by-stops}
use Rattle.octets.proofs.Tests.{and_left, and_right, between_is, above-between, below-between}
use Rattle.characters.specs.Utf8.{is_legal, encoded, width, scalar_at, width_at, is_single, through}
use Rattle.characters.proofs.Forms.{stood}
use Rattle.characters.proofs.Legals.{single-high}
use Rattle.characters.proofs.Places.{low-is, single-is, single-width, stands-for, low_byte, wide-some, Steps, legal-steps}
use Rattle.pieces.specs.Classes.{is_named, is_plain, figure_of, is_figure}
use Rattle.pieces.specs.WorkingClasses.{is_run, is_comment_byte}
use Rattle.pieces.specs.Pieces.{in_note, in_text, ref_at, char_at}
use Rattle.std.specs.Prelude.{Some, None}
use Rattle.pieces.proofs.Words.{begins-not}

-- a class that 0 has not, as a relation
pub taken-in : (q : ℕ → Type 0) (s : List ℕ) (i b : ℕ) → (q 0 → ⊥) → b ≡ byte_at s i → q b → i < length s
taken-in q s i b n e h = go (dec_lt i (length s))
  where
    go : Dec (i < length s) → i < length s
    go (yes l) = l
    go (no l) = let z : b ≡ 0 = e ∙ get_or-eq_default s 0 (omega arith) in absurd (n (subst q z h))

pub space-in : (s : List ℕ) (i : ℕ) → is_space (byte_at s i) ≡ true → i < length s
unfolding is_space one_of
space-in s i e = inside is_space s i refl e

pub named_in : (s : List ℕ) (i : ℕ) → is_named (byte_at s i) ≡ true → i < length s
unfolding is_named is_letter is_capital is_digit between every one_of
named_in s i e = inside is_named s i refl e

-- 0 is of none of the classes
pub no-space : true ≡ is_space 0 → ⊥
unfolding is_space one_of
no-space e = absurd (false≢true (sym e))

pub no-name : true ≡ is_named 0 → ⊥
unfolding is_named is_letter is_capital is_digit between every one_of
no-name e = absurd (false≢true (sym e))

pub no-run : true ≡ is_run 0 → ⊥
unfolding is_run is_single is_legal one_of between every
no-run e = absurd (false≢true (sym e))

pub no-figure : (base : ℕ) → base ≤ 16 → true ≡ is_figure base 0 → ⊥
unfolding is_figure figure_of is_digit between every
no-figure base h e = absurd (false≢true (sym (e ∙ le-ltb 16 base h)))

or_left : (a b : Bool) → (a || b) ≡ false → a ≡ false
or_left true b h = h
or_left false b h = refl

or_right : (a b : Bool) → (a || b) ≡ false → b ≡ false
or_right true b h = absurd (mathlib.Core.Bool.true≢false h)
or_right false b h = h

-- ---- plain characters

-- a test of an element that is none of some
but : (a b : Bool) → (a && not b) ≡ true → b ≡ false
but a true h = let z : false ≡ true = sym (and-false a) ∙ h in absurd (false≢true z)
but a false h = refl

pub plain-no-reference : (c : ℕ) → is_plain c ≡ true → c ≡ 38 → ⊥
unfolding is_plain is_legal between every one_of
plain-no-reference c h e = let z : false ≡ true = rw e at h in absurd (false≢true z)

pub plain-wide : (c : ℕ) → 128 ≤ c → is_legal c ≡ true → is_plain c ≡ true
unfolding is_plain one_of
plain-wide c l h = rw (h, ne_eqb c 60 (omega arith), ne_eqb c 38 (omega arith))

pub none-plain : is_plain 0 ≡ false
unfolding is_plain is_legal between every one_of
none-plain = refl

none-legal : is_legal 0 ≡ false
unfolding is_legal between every one_of
none-legal = refl

-- ---- at a place, by its byte

module _ (s : List ℕ) (i : ℕ) where
  pub plain-steps : is_plain (scalar_at s i) ≡ true → Steps s i
  unfolding is_plain
  plain-steps e = legal-steps s i (and_left (is_legal (scalar_at s i)) _ e)

  pub note-steps : in_note s i ≡ true → Steps s i
  unfolding in_note
  note-steps e = legal-steps s i (and_left (is_legal (scalar_at s i)) _ e)

  pub text-steps : in_text s i ≡ true → Steps s i
  unfolding in_text
  text-steps e = plain-steps (and_left (is_plain (scalar_at s i)) _ e)

  -- a byte that is a character by itself
  single-legal : is_single (byte_at s i) ≡ true → is_legal (byte_at s i) ≡ true
  unfolding is_single
  single-legal h = and_right (ltb (byte_at s i) 128) (is_legal (byte_at s i)) h

  -- and one below 128 that is none
  pub low-none : byte_at s i < 128 → is_single (byte_at s i) ≡ false → scalar_at s i ≡ 0
  unfolding is_single
  low-none l h = let q : is_legal (byte_at s i) ≡ false = rw (lt-ltb (byte_at s i) 128 l) at h in low-is s i l ∙ rw q

  none-wide : scalar_at s i ≡ 0 → width_at s i ≡ 0
  unfolding width_at
  none-wide e = rw e

  -- a step over a character that is good, but not where x and then xs stand
  module _ (good : ℕ → Bool) (x : ℕ) (xs : List ℕ) where
    abbrev step : ℕ
    step = pick (good (scalar_at s i) && not (stands (x ∷ xs) s i)) (width_at s i) 0

    over-byte : is_single (byte_at s i) ≡ true → good (byte_at s i) ≡ true → (byte_at s i ≡ x → ⊥) → 1 ≡ step
    over-byte b g d = rw (single-is s i b, g, begins-not x xs s i d, single-width s i b)

    over_none : good (scalar_at s i) ≡ false → 0 ≡ step
    over_none g = rw g

    over-wide : good 0 ≡ false → ((c : ℕ) → 128 ≤ c → is_legal c ≡ true → good c ≡ true) → x < 128 → 128 ≤ byte_at s i → width_at s i ≡ step
    over-wide n g l h = go (dec_lt 0 (scalar_at s i))
      where
        d : byte_at s i ≡ x → ⊥
        d = omega arith

        go : Dec (0 < scalar_at s i) → width_at s i ≡ step
        go (yes z) = rw (g (scalar_at s i) (wide-some s i h z) (stood s i z).legal, begins-not x xs s i d)
        go (no z) = let e : scalar_at s i ≡ 0 = omega arith in none-wide e ∙ over_none (rw e n)

    over-mark : is_single (byte_at s i) ≡ true → good (byte_at s i) ≡ true → pick (stands (x ∷ xs) s i) 0 1 ≡ step
    over-mark b g = rw (single-is s i b, g, single-width s i b) (go (stands (x ∷ xs) s i))
      where
        go : (t : Bool) → ◌≡◌ {A = ℕ} (pick t 0 1) (pick (not t) 1 0)
        go true = refl
        go false = refl

  -- ---- a comment

  pub quiet-goes-on : is_comment_byte (byte_at s i) ≡ true → 1 ≡ pick (in_note s i) (width_at s i) 0
  unfolding is_comment_byte in_note bytes
  quiet-goes-on h =
      let b = and_left (is_single (byte_at s i)) (not (eqb (byte_at s i) 45)) h in
      over-byte is_legal 45 (45 ∷ []) b (single-legal b) (eqb-false (byte_at s i) 45 (but (is_single (byte_at s i)) (eqb (byte_at s i) 45) h))

  pub note-wide : 128 ≤ byte_at s i → width_at s i ≡ pick (in_note s i) (width_at s i) 0
  unfolding in_note bytes
  note-wide h = over-wide is_legal 45 (45 ∷ []) none-legal (λ c l e. e) (omega arith) h

  pub note-ends : byte_at s i < 128 → is_comment_byte (byte_at s i) ≡ false → (byte_at s i ≡ 45 → ⊥) → 0 ≡ pick (in_note s i) (width_at s i) 0
  unfolding is_comment_byte in_note bytes
  note-ends l h n =
      let q : is_single (byte_at s i) ≡ false = rw (ne_eqb (byte_at s i) 45 n, and-true) at h in
      over_none is_legal 45 (45 ∷ []) (rw (low-none l q) none-legal)

  pub at-dash : byte_at s i ≡ 45 → pick (stands (45 ∷ 45 ∷ []) s i) 0 1 ≡ pick (in_note s i) (width_at s i) 0
  unfolding in_note bytes is_single is_legal between every one_of
  at-dash h = over-mark is_legal 45 (45 ∷ []) (rw h) (rw h)

  -- ---- text

  run-single : is_run (byte_at s i) ≡ true → is_single (byte_at s i) ≡ true
  unfolding is_run
  run-single h = and_left (is_single (byte_at s i)) _ h

  pub run-plain : is_run (byte_at s i) ≡ true → is_plain (byte_at s i) ≡ true
  unfolding is_run is_plain one_of
  run-plain h =
      let n = but (is_single (byte_at s i)) (one_of (93 ∷ 60 ∷ 38 ∷ []) (byte_at s i)) h in
      rw (single-legal (run-single h), or_right (eqb (byte_at s i) 93) (one_of (60 ∷ 38 ∷ []) (byte_at s i)) n)

  run-other : is_run (byte_at s i) ≡ true → byte_at s i ≡ 93 → ⊥
  unfolding is_run one_of
  run-other h =
      let n = but (is_single (byte_at s i)) (one_of (93 ∷ 60 ∷ 38 ∷ []) (byte_at s i)) h in
      eqb-false (byte_at s i) 93 (or_left (eqb (byte_at s i) 93) (one_of (60 ∷ 38 ∷ []) (byte_at s i)) n)

  pub run-goes-on : is_run (byte_at s i) ≡ true → 1 ≡ pick (in_text s i) (width_at s i) 0
  unfolding in_text bytes
  run-goes-on h = over-byte is_plain 93 (93 ∷ 62 ∷ []) (run-single h) (run-plain h) (run-other h)

  pub text-wide : 128 ≤ byte_at s i → width_at s i ≡ pick (in_text s i) (width_at s i) 0
  unfolding in_text bytes
  text-wide h = over-wide is_plain 93 (93 ∷ 62 ∷ []) none-plain plain-wide (omega arith) h

  -- a byte below 128 that is neither in a run nor `]` is no plain character
  not_plain : (byte_at s i ≡ 93 → ⊥) → is_single (byte_at s i) ≡ true → is_run (byte_at s i) ≡ false → is_plain (byte_at s i) ≡ false
  unfolding is_run is_plain one_of
  not_plain n e h = rw (single-legal e) (rw (e, ne_eqb (byte_at s i) 93 n) at h)

  pub low-not-plain : byte_at s i < 128 → is_run (byte_at s i) ≡ false → (byte_at s i ≡ 93 → ⊥) → is_plain (scalar_at s i) ≡ false
  low-not-plain l h n = go (is_single (byte_at s i)) refl
    where
      go : (b : Bool) → is_single (byte_at s i) ≡ b → is_plain (scalar_at s i) ≡ false
      go true e = rw (single-is s i e) (not_plain n e h)
      go false e = rw (low-none l e) none-plain

  pub text-ends : byte_at s i < 128 → is_run (byte_at s i) ≡ false → (byte_at s i ≡ 93 → ⊥) → 0 ≡ pick (in_text s i) (width_at s i) 0
  unfolding in_text bytes
  text-ends l h n = over_none is_plain 93 (93 ∷ 62 ∷ []) (low-not-plain l h n)

  pub tag-ends : byte_at s i ≡ 60 → 0 ≡ pick (in_text s i) (width_at s i) 0
  unfolding is_run is_single is_legal one_of between every
  tag-ends e = text-ends (omega arith) (rw e) (omega arith)

  pub at_bracket : byte_at s i ≡ 93 → pick (stands (93 ∷ 93 ∷ 62 ∷ []) s i) 0 1 ≡ pick (in_text s i) (width_at s i) 0
  unfolding in_text bytes is_single is_plain is_legal between every one_of
  at_bracket h = over-mark is_plain 93 (93 ∷ 62 ∷ []) (rw h) (rw h)

  -- ---- a character of text or of a value

  pub run_in : is_run (byte_at s i) ≡ true → i < length s
  unfolding is_run is_single is_legal between every one_of
  run_in h = inside is_run s i refl h

  pub char-run : is_run (byte_at s i) ≡ true → Some (byte_at s i, i + 1) ≡ char_at s i
  unfolding char_at
  char-run h =
      let b = run-single h in
      let e = single-is s i b in
      let p = run-plain h in
      let w : width (byte_at s i) ≡ 1 = ap width (sym e) ∙ sym (legal-steps s i (rw e (single-legal b))).is ∙ single-width s i b in
      rw (e, ne_eqb (byte_at s i) 38 (plain-no-reference (byte_at s i) p), p, w)

  pub char-bracket : byte_at s i ≡ 93 → Some (93, i + 1) ≡ char_at s i
  unfolding char_at is_plain is_single is_legal encoded between every one_of
  char-bracket h = let e = stands-for s i 93 refl h in rw e

  pub char-ref : byte_at s i ≡ 38 → ref_at s i ≡ char_at s i
  unfolding char_at is_single is_legal between every one_of
  char-ref h = let e = stands-for s i 38 refl h in rw e

  pub char-low : byte_at s i < 128 → is_run (byte_at s i) ≡ false → (byte_at s i ≡ 93 → ⊥) → (byte_at s i ≡ 38 → ⊥) → None ≡ char_at s i
  unfolding char_at
  char-low l h n m =
      let d : scalar_at s i ≡ 38 → ⊥ = λ e. m (low_byte s i (omega arith) (omega arith) ∙ e) in
      rw (ne_eqb (scalar_at s i) 38 d, low-not-plain l h n)

  pub char-none : scalar_at s i ≡ 0 → None ≡ char_at s i
  unfolding char_at
  char-none e = rw (e, none-plain)

  pub char-wide : 128 ≤ byte_at s i → 0 < scalar_at s i → Some (scalar_at s i, i + width (scalar_at s i)) ≡ char_at s i
  unfolding char_at
  char-wide h z =
      let l = wide-some s i h z in
      let d : scalar_at s i ≡ 38 → ⊥ = omega arith in
      rw (ne_eqb (scalar_at s i) 38 d, plain-wide (scalar_at s i) l (stood s i z).legal)

-- ---- a turn of a loop by characters, n bytes on; none where it ends

pub stays : (b : Bool) (w : ℕ) → (b ≡ true → 1 ≤ w) → pick b w 0 ≡ 0 → b ≡ false
stays true w f e = let l = f refl in absurd (omega arith)
stays false w f e = refl

pub goes : (b : Bool) (w : ℕ) → (pick b w 0 ≡ 0 → ⊥) → b ≡ true
goes true w f = refl
goes false w f = absurd (f refl)

module _ (s : List ℕ) (p : ℕ → Bool) (from i n : ℕ) where
  pub record Turned : Type 0 where
    pub on : 1 ≤ n
    pub in-it : i + n ≤ length s
    pub scans : ScanningBy (width_at s) p (length s) from (i + n)

  module _ (steps : (j : ℕ) → p j ≡ true → Steps s j) (is : n ≡ pick (p i) (width_at s i) 0) (v : ScanningBy (width_at s) p (length s) from i) where
    pub turn-ends : n ≡ 0 → i ≡ through p s from
    turn-ends z = by-stops (width_at s) p (length s) from i (stays (p i) (width_at s i) (λ e. (steps i e).on) (sym is ∙ z)) v

    pub turns : (n ≡ 0 → ⊥) → Turned
    turns z =
        let e : p i ≡ true = goes (p i) (width_at s i) (λ y. z (is ∙ y)) in
        let t = steps i e in
        let l = t.on in
        let m = t.in-it in
        let w : n ≡ width_at s i = is ∙ ap (λ (b : Bool). pick b (width_at s i) 0) e in
        record { on = omega arith; in-it = omega arith; scans = rw w (by-moves (width_at s) p (length s) from i e (omega arith) l v) }

-- a turn from anywhere stays inside
pub turn-in : (s : List ℕ) (p : ℕ → Bool) (i n : ℕ) → ((j : ℕ) → p j ≡ true → Steps s j) → n ≡ pick (p i) (width_at s i) 0 → 0 < n → i + n ≤ length s
turn-in s p i n steps is z = (turns s p i i n steps is (by-starts (width_at s) p (length s) i) (omega arith)).in-it

-- ---- the classes, test by test

pub run-rest : (b : ℕ) → (b ≡ 93 → ⊥) → (b ≡ 60 → ⊥) → (b ≡ 38 → ⊥) → is_single b ≡ is_run b
unfolding is_run one_of
run-rest b p q r = rw (ne_eqb b 93 p, ne_eqb b 60 q, ne_eqb b 38 r, and-true)

pub run-basic : (b : ℕ) → 32 ≤ b → b < 128 → is_run b ≡ not (one_of (93 ∷ 60 ∷ 38 ∷ []) b)
unfolding is_run
run-basic b l h = rw (sym (single-high b l), lt-ltb b 128 h)

pub quiet-rest : (b : ℕ) → (b ≡ 45 → ⊥) → is_single b ≡ is_comment_byte b
unfolding is_comment_byte
quiet-rest b p = rw (ne_eqb b 45 p, and-true)

-- ---- a byte of a name, by ranges

from_low : (lo hi b : ℕ) → lo ≤ b → between lo hi b ≡ leb b hi
unfolding between every
from_low lo hi b h = rw (le-leb lo b h, and-true)

module _ (b : ℕ) where
  pub named_small : 96 < b → leb b 122 ≡ is_named b
  unfolding is_named is_letter is_capital is_digit one_of
  named_small h = rw (
    above-between 65 90 b (omega arith),
    above-between 48 57 b (omega arith),
    from_low 97 122 b (omega arith),
    ne_eqb b 95 (omega arith),
    ne_eqb b 45 (omega arith),
    ne_eqb b 46 (omega arith),
    or-false,
    or-false,
  )

  pub named-capital : 64 < b → b ≤ 90 → true ≡ is_named b
  unfolding is_named is_letter is_capital
  named-capital l h = rw (between_is 65 90 b (omega arith) h)

  pub named-line : 90 < b → b ≤ 96 → eqb b 95 ≡ is_named b
  unfolding is_named is_letter is_capital is_digit one_of
  named-line l h = rw (
    above-between 65 90 b l,
    below-between 97 122 b (omega arith),
    above-between 48 57 b (omega arith),
    ne_eqb b 45 (omega arith),
    ne_eqb b 46 (omega arith),
    or-false,
  )

  pub named-digit : 47 < b → b ≤ 64 → leb b 57 ≡ is_named b
  unfolding is_named is_letter is_capital is_digit one_of
  named-digit l h = rw (
    below-between 65 90 b (omega arith),
    below-between 97 122 b (omega arith),
    from_low 48 57 b (omega arith),
    ne_eqb b 95 (omega arith),
    ne_eqb b 45 (omega arith),
    ne_eqb b 46 (omega arith),
    or-false,
  )

  pub named-mark : b ≤ 47 → one_of (45 ∷ 46 ∷ []) b ≡ is_named b
  unfolding is_named is_letter is_capital is_digit one_of
  named-mark h = rw (
    below-between 65 90 b (omega arith),
    below-between 97 122 b (omega arith),
    below-between 48 57 b (omega arith),
    ne_eqb b 95 (omega arith),
  )
