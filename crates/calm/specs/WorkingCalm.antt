-- Bytes of a message that are each one character of a value: a mark, and white space before a mark.
use Rattle.std.specs.Prelude.{ℕ, zero, suc, ◌+◌, ◌<◌, ◌≡◌, Bool, true, ◌&&◌, ◌||◌, not, List, [], ◌∷◌, ltb}
use Rattle.octets.specs.Bytes.{pick, byte_at, one_of, is_space, is_visible}

-- a byte of 33 to 126 but `<` and `&`: a character of a value as it stands
unfoldable pub is_mark : ℕ → Bool
is_mark b = is_visible b && not (one_of (60 ∷ 38 ∷ []) b)

-- b before c
unfoldable pub is_calm : ℕ → ℕ → Bool
is_calm b c = is_mark b || (is_space b && is_mark c)

abbrev pub calm_at : List ℕ → ℕ → Bool
calm_at s i = is_calm (byte_at s i) (byte_at s (i + 1))

-- the n bytes from i are calm
abbrev pub Calm : List ℕ → ℕ → ℕ → Type 0
Calm s i n = (j : ℕ) → j < n → calm_at s (i + j) ≡ true

-- the character that a calm byte is
unfoldable pub soft : ℕ → ℕ
soft b = pick (ltb b 33) 32 b

-- the characters that n calm bytes from i are
unfoldable pub soft_at : List ℕ → ℕ → ℕ → List ℕ
soft_at s i zero = []
soft_at s i (suc n) = soft (byte_at s i) ∷ soft_at s (i + 1) n
