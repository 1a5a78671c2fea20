-- What offers, hand-outs and lists answer and do, as definitions by which the code is specified.
use Rattle.std.specs.Prelude.{ℕ, ◌*◌, ◌-◌, Result, Ok, Err, List, [], ◌∷◌, leb, length, replicate}
use Rattle.octets.specs.Bytes.{pick}
use Rattle.records.specs.Record.{aired}
use Rattle.ledger.specs.Sorted.{insert, insert_all}
use Rattle.ledger.specs.declared.Row.{Row}
use Rattle.ledger.specs.WorkingBoard.{live, due, index_of, rows_of}
use Rattle.board.specs.Rules.{board_of}
use Rattle.board.specs.WorkingRules.{board_ok, encode}
use Rattle.board.specs.declared.Added.{Added}
use Rattle.board.specs.declared.Handed.{Handed}
use Rattle.board.specs.Calls.{Handing, Listing}

-- ---- an offer of the records rs: 1 the board, 15 too few empty records

pub record Offering : Type 0 where
  pub answer : Added
  pub bytes : List ℕ

-- how many were added, or the number of a refusal, as the answer
abbrev pub added_of : Result ℕ ℕ → Added
added_of (Ok added) = record { number = 0; added = added }
added_of (Err number) = record { number = number; added = 0 }

-- a refusal returns its number, zeros elsewhere, and changes nothing
abbrev pub offer_refused : ℕ → List ℕ → Offering
offer_refused number s = record { answer = record { number = number; added = 0 }; bytes = s }

-- c, which is b with the records in their places: written where there is room, and the count is by how many it is longer
abbrev pub offer_to : List ℕ → List (List ℕ) → List (List ℕ) → Offering
offer_to s b c =
    pick (leb (length c * 384) (length s))
    (record { answer = record { number = 0; added = length c - length b }; bytes = encode (length s) c })
    (offer_refused 15 s)

unfoldable pub offer_of : List ℕ → List (List ℕ) → Offering
offer_of s rs = pick (board_ok s) (offer_to s (board_of s) (insert_all rs (board_of s))) (offer_refused 1 s)

-- ---- a hand-out: 1 the board, 16 nothing due, 15 no empty record

-- the index of the smallest notice that makes the header due, or the number of a refusal, as the answer
abbrev pub handed_of : Result ℕ ℕ → Handed
handed_of (Ok index) = record { number = 0; index = index }
handed_of (Err number) = record { number = number; index = 0 }

abbrev pub hand_refused : ℕ → List ℕ → Handing
hand_refused number s = record { answer = record { number = number; index = 0 }; bytes = s }

-- the aired record of the first due header is added to b
abbrev pub hand_to : List ℕ → List (List ℕ) → List (List ℕ) → Handing
hand_to s b [] = hand_refused 16 s
hand_to s b (h ∷ hs) =
    pick (leb (length (insert (aired h) b) * 384) (length s))
    (record { answer = record { number = 0; index = index_of (live b) h b }; bytes = encode (length s) (insert (aired h) b) })
    (hand_refused 15 s)

unfoldable pub hand_of : List ℕ → Handing
hand_of s = pick (board_ok s) (hand_to s (board_of s) (due (board_of s))) (hand_refused 1 s)

-- ---- the list, with m rows lent: 1 the board, 2 rows below the due count

abbrev pub list_refused : ℕ → Listing
list_refused number = record { answer = record { number = number; count = 0 }; rows = [] }

abbrev pub list_to : List Row → ℕ → Listing
list_to rows m = pick (leb (length rows) m) (record { answer = record { number = 0; count = length rows }; rows = rows }) (list_refused 2)

unfoldable pub list_of : List ℕ → ℕ → Listing
list_of s m = pick (board_ok s) (list_to (rows_of (board_of s)) m) (list_refused 1)

abbrev pub blank : Row
blank = record { index = 0; count = 0 }

-- rows before anything is written to them
abbrev pub blanks : List Row
blanks = replicate 170 blank
