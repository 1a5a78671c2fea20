-- The rules of a board as the code asks them, and a board's bytes made of records.
use Rattle.std.specs.Prelude.{ℕ, ◌*◌, ◌-◌, ◌%◌, Bool, true, ◌≡◌, List, [], ◌∷◌, ◌++◌, eqb, length, drop, replicate}
use Rattle.octets.specs.Bytes.{every, holds, between}
use Rattle.records.specs.Record.{zeros, record_ok}
use Rattle.ledger.specs.Sorted.{In, ascending, insert}
use Rattle.slots.specs.Slots.{recs}
use Rattle.slots.specs.WorkingSlots.{flat}
use Rattle.board.specs.Rules.{board_of}

-- each of them keeps its own rules
abbrev pub Records : List (List ℕ) → Type 0
Records b = (r : List ℕ) → In r b → record_ok r ≡ true

-- 1 to 170 records; the filled ones first, strictly ascending by bytes, each keeping its own rules; the rest all zero
abbrev pub board_tests : List ℕ → List Bool
board_tests s =
    between 384 65280 (length s)
    ∷ eqb (length s % 384) 0
    ∷ ascending (board_of s)
    ∷ every record_ok (board_of s)
    ∷ zeros (drop (length (board_of s) * 384) s)
    ∷ []

unfoldable pub board_ok : List ℕ → Bool
board_ok s = every holds (board_tests s)

-- a board of n bytes with the filled records b
unfoldable pub encode : ℕ → List (List ℕ) → List ℕ
encode n b = flat b ++ replicate (n - length b * 384) 0

-- the bytes s with the record r added to the first n
abbrev pub added : List ℕ → ℕ → List ℕ → List ℕ
added s n r = flat (insert r (recs n s)) ++ drop (length (insert r (recs n s)) * 384) s
