-- Classes of bytes by which the code goes on through text and comments.
use Rattle.std.specs.Prelude.{ℕ, ◌+◌, ◌<◌, ◌≡◌, Bool, true, ◌&&◌, not, List, [], ◌∷◌, eqb}
use Rattle.octets.specs.Bytes.{byte_at, one_of}
use Rattle.characters.specs.Utf8.{is_single}

-- a byte that stands for itself in text by itself, and begins no `]]>`
unfoldable pub is_run : ℕ → Bool
is_run b = is_single b && not (one_of (93 ∷ 60 ∷ 38 ∷ []) b)

-- a byte that is a character of a comment by itself, and begins no `--`
unfoldable pub is_comment_byte : ℕ → Bool
is_comment_byte b = is_single b && not (eqb b 45)

-- the n bytes from i are bytes of a run
abbrev pub Runs : List ℕ → ℕ → ℕ → Type 0
Runs s i n = (j : ℕ) → j < n → is_run (byte_at s (i + j)) ≡ true
