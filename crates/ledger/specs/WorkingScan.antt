-- The due headers one after the other, as a scan of the board finds them.
use Rattle.std.specs.Prelude.{ℕ, Bool, true, false, List, [], ◌∷◌}
use Rattle.octets.specs.Bytes.{every, holds}
use Rattle.octets.specs.Order.{cmp, choose}
use Rattle.records.specs.Record.{carried}
use Rattle.ledger.specs.WorkingBoard.{live, ordered, index_of}

-- live on b, with a header that comes after h
unfoldable pub after : List (List ℕ) → List ℕ → List ℕ → Bool
after b h r = every holds (live b r ∷ choose (cmp h (carried r)) true false false ∷ [])

-- the index in l of the first record that passes p and carries the first of the headers, and none where there is no header
abbrev pub first_of : ℕ → (List ℕ → Bool) → List (List ℕ) → List (List ℕ) → ℕ
first_of none p l [] = none
first_of none p l (h ∷ hs) = index_of p h l

-- that index for the headers of l itself
unfoldable pub best_of : ℕ → (List ℕ → Bool) → List (List ℕ) → ℕ
best_of none p l = first_of none p l (ordered p l)
