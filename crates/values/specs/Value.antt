-- A leaf's value is its decoded text without comments, white space collapsed: ends trimmed, each run one space.
use Rattle.std.specs.Prelude.{ℕ, ◌+◌, List, [], ◌∷◌}
use Rattle.octets.specs.Bytes.{pick, is_capital, is_space}
use Rattle.values.specs.Chars.{text_at}

-- no white space at the front
unfoldable pub trimmed : List ℕ → List ℕ
trimmed [] = []
trimmed (c ∷ cs) = pick (is_space c) (trimmed cs) (c ∷ cs)

-- a space before what follows, unless that is nothing or begins with one
unfoldable pub spaced : List ℕ → List ℕ
spaced [] = []
spaced (c ∷ cs) = pick (is_space c) (c ∷ cs) (32 ∷ c ∷ cs)

-- each run of white space one space, and none at the end
unfoldable pub runs : List ℕ → List ℕ
runs [] = []
runs (c ∷ cs) = pick (is_space c) (spaced (runs cs)) (c ∷ runs cs)

unfoldable pub collapsed : List ℕ → List ℕ
collapsed cs = runs (trimmed cs)

-- the value of the leaf whose content begins at i
unfoldable pub value_at : List ℕ → ℕ → List ℕ
value_at s i = collapsed (text_at s i)

-- ---- what a value is asked for

-- a letter's small form
unfoldable pub small : ℕ → ℕ
small c = pick (is_capital c) (c + 32) c
