-- The characters of a run of bytes.
use Rattle.std.specs.Prelude.{ℕ, zero, suc, ◌+◌, List, [], ◌∷◌, length, eqb}
use Rattle.octets.specs.Bytes.{pick}
use Rattle.characters.specs.Utf8.{width, scalar_at}

-- those from i on, up to where none stands, n at most
unfoldable pub chars_from : List ℕ → ℕ → ℕ → List ℕ
chars_from s zero i = []
chars_from s (suc n) i = let c = scalar_at s i in pick (eqb c 0) [] (c ∷ chars_from s n (i + width c))

-- a character takes a byte at least, so as many as there are bytes are enough
unfoldable pub chars_of : List ℕ → List ℕ
chars_of s = chars_from s (length s) 0
