-- The characters of a text and of a value are legal: text-legal, rest-legal, value-legal.
use Prim.Native.Nat.{ℕ}
use mathlib.Core.Path.{◌≡◌, refl, ap, ◌∙◌}
use mathlib.Core.Bool.{true}
use mathlib.Core.List.{List, [], ◌∷◌}
use lib.Dec.{eqb}
use Rattle.octets.specs.Bytes.{every, between, one_of, byte_at, is_space}
use Rattle.octets.proofs.Tests.{every-none, every-step, every_first, every_rest, either_way}
use Rattle.characters.specs.Utf8.{is_legal}
use Rattle.pieces.specs.Pieces.{note_at, char_at}
use Rattle.std.specs.Prelude.{Option, Some, None}
use Rattle.pieces.proofs.Legal.{char-legal}
use Rattle.values.specs.Chars.{met, passed, next_at, text_at}
use Rattle.values.specs.Value.{trimmed, spaced, runs, collapsed, value_at}
use Rattle.values.specs.WorkingSteps.{rest_at}
use Rattle.values.specs.declared.Next.{Next}
use Rattle.values.specs.declared.Next.TheVariants.{Char, Over, Last}
use Rattle.values.proofs.Folds.{along}
use Rattle.values.proofs.Texts.{text-char, text-over, text-last}

-- ---- a character at a place

abbrev NextLegal : Next → Type 0
NextLegal (Char c j) = is_legal c ≡ true
NextLegal (Over j) = Unit {0}
NextLegal Last = Unit {0}

next-legal : (s : List ℕ) (i : ℕ) → NextLegal (next_at s i)
unfolding next_at met passed
next-legal s i = either_way NextLegal (eqb (byte_at s i) 60) _ _ (λ e. note (note_at s i)) (λ e. char (char_at s i) refl)
  where
    note : (e : Option ℕ) → NextLegal (passed e)
    note (Some j) = tt
    note None = tt

    char : (r : Option (ℕ × ℕ)) → char_at s i ≡ r → NextLegal (met r)
    char (Some (c, j)) e = char-legal s i c j e
    char None e = tt

-- ---- a text

pub text-legal : (s : List ℕ) (i : ℕ) → every is_legal (text_at s i) ≡ true
text-legal s i = along s (λ i. every is_legal (text_at s i) ≡ true)
    (λ i e. ap (every is_legal) (text-last s i e) ∙ every-none is_legal)
    (λ i j e h. ap (every is_legal) (text-over s i j e) ∙ h)
    (λ i c j e h. ap (every is_legal) (text-char s i c j e) ∙ every-step is_legal c (text_at s j) (rw e at (next-legal s i)) ∙ h) i

-- ---- a value

space-legal : is_legal 32 ≡ true
unfolding is_legal between every one_of
space-legal = refl

spaced-legal : (cs : List ℕ) → every is_legal cs ≡ true → every is_legal (spaced cs) ≡ true
unfolding spaced
spaced-legal [] h = h
spaced-legal (c ∷ cs) h = either_way (λ (v : List ℕ). every is_legal v ≡ true) (is_space c) (c ∷ cs) (32 ∷ c ∷ cs) (λ e. h) (λ e. every-step is_legal 32 (c ∷ cs) space-legal ∙ h)

runs-legal : (cs : List ℕ) → every is_legal cs ≡ true → every is_legal (runs cs) ≡ true
unfolding runs
runs-legal [] h = h
runs-legal (c ∷ cs) h =
    let rest = runs-legal cs (every_rest is_legal c cs h) in
    either_way (λ (v : List ℕ). every is_legal v ≡ true) (is_space c) (spaced (runs cs)) (c ∷ runs cs)
    (λ e. spaced-legal (runs cs) rest) (λ e. every-step is_legal c (runs cs) (every_first is_legal c cs h) ∙ rest)

pub rest-legal : (s : List ℕ) (i : ℕ) → every is_legal (rest_at s i) ≡ true
rest-legal s i = runs-legal (text_at s i) (text-legal s i)

trimmed-legal : (cs : List ℕ) → every is_legal cs ≡ true → every is_legal (trimmed cs) ≡ true
unfolding trimmed
trimmed-legal [] h = h
trimmed-legal (c ∷ cs) h =
    either_way (λ (v : List ℕ). every is_legal v ≡ true) (is_space c) (trimmed cs) (c ∷ cs) (λ e. trimmed-legal cs (every_rest is_legal c cs h)) (λ e. h)

pub value-legal : (s : List ℕ) (i : ℕ) → every is_legal (value_at s i) ≡ true
unfolding value_at collapsed
value-legal s i = runs-legal (trimmed (text_at s i)) (trimmed-legal (text_at s i) (text-legal s i))
