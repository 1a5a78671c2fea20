-- The classes of characters and bytes of document 01, "Reading the message", beside those of octets and characters.
use Rattle.std.specs.Prelude.{ℕ, ◌-◌, Bool, ◌&&◌, ◌||◌, not, [], ◌∷◌, eqb, ltb}
use Rattle.octets.specs.Bytes.{pick, between, one_of, is_digit, is_letter}
use Rattle.characters.specs.Utf8.{is_legal}

-- letter or `_`
unfoldable pub is_start : ℕ → Bool
is_start b = is_letter b || eqb b 95

-- letters, digits, `_`, `-`, `.`
unfoldable pub is_named : ℕ → Bool
is_named b = is_letter b || is_digit b || one_of (95 ∷ 45 ∷ 46 ∷ []) b

-- a character that stands for itself in text and in a value: neither `<` nor `&`
unfoldable pub is_plain : ℕ → Bool
is_plain c = is_legal c && not (one_of (60 ∷ 38 ∷ []) c)

-- what a decimal or hexadecimal digit counts, in either letter case; 16 where it is none
unfoldable pub figure_of : ℕ → ℕ
figure_of b = pick (is_digit b) (b - 48) (pick (between 65 70 b) (b - 55) (pick (between 97 102 b) (b - 87) 16))

-- a digit of the base
unfoldable pub is_figure : ℕ → ℕ → Bool
is_figure base b = ltb (figure_of b) base
