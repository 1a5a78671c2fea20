-- What the values of identifier and sender may be.
use Rattle.std.specs.Prelude.{ℕ, Bool, ◌&&◌, not, List, [], ◌∷◌, length}
use Rattle.octets.specs.Bytes.{every, holds, between, one_of, is_visible}

-- 33 to 126, without comma, `<`, `&`
unfoldable pub is_identity_byte : ℕ → Bool
is_identity_byte b = is_visible b && not (one_of (44 ∷ 60 ∷ 38 ∷ []) b)

-- sender and identifier: 1 to 64 such bytes
unfoldable pub identity_ok : List ℕ → Bool
identity_ok v = every holds (between 1 64 (length v) ∷ every is_identity_byte v ∷ [])
