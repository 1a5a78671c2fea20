-- How the code reads a character, byte behind byte.
use Rattle.std.specs.Prelude.{ℕ, ◌&&◌, List, leb}
use Rattle.octets.specs.Bytes.{pick, between, byte_at}
use Rattle.characters.specs.Utf8.{is_legal, joined}

-- a byte that a character goes on with stands at i: n, and behind it the six bits of that byte; 0 where none does
unfoldable pub joined_at : List ℕ → ℕ → ℕ → ℕ
joined_at s i n = pick (between 128 191 (byte_at s i)) (joined n (byte_at s i)) 0

-- a character that is not below `least`, and 0 for any other number
unfoldable pub legal_from : ℕ → ℕ → ℕ
legal_from least c = pick (leb least c && is_legal c) c 0
