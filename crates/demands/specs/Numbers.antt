-- "Numbers returned": each number with the condition under which it applies, in the order in which a call asks them. s is a message, b a board.
use Rattle.std.specs.Prelude.{ℕ, ◌+◌, ◌-◌, ◌*◌, ◌/◌, ◌%◌, ◌≡◌, ◌↔◌, Bool, true, false, ◌&&◌, not, List, [], ◌∷◌, ◌++◌, map, length, drop, eqb, leb, ltb}
use Rattle.octets.specs.Bytes.{pick, every, holds, between, one_of, is_capital}
use Rattle.clock.specs.Time.{time_of, is_time}
use Rattle.parts.specs.Parts.{body_ok}
use Rattle.parts.specs.declared.Parts.{Parts}
use Rattle.header.specs.Header.{header_form}
use Rattle.markup.specs.Tree.{One, one, none}
use Rattle.markup.specs.Document.{doc_at}
use Rattle.fields.specs.References.{sender_of, identifier_of, sent_of, words}
use Rattle.records.specs.Record.{zeros, record_ok}
use Rattle.ledger.specs.Sorted.{In, ascending}
use Rattle.board.specs.Rules.{board_of}
use Rattle.told.specs.Values.{is_none, first_value, is, is_one, once, is_six, info_sound, languages_sound}
use Rattle.message.specs.Root.{root_ok}
use Rattle.demands.specs.Message.{prefix, alert, info, identifier, sender, sent, status, msg_type, scope, references, expires, events, locations, originator, is_quiet, sent_seconds, expires_seconds, broadcast_values, description}
use Rattle.demands.specs.Board.{message_records, new_to, due_headers}

pub record NumberRow : Type 0 where
  pub number : ℕ
  pub applies : Bool

abbrev pub row : ℕ → Bool → NumberRow
row n b = record { number = n; applies = b }

-- lowest applicable wins; 0 where none applies
unfoldable pub lowest_in : List NumberRow → ℕ
lowest_in [] = 0
lowest_in (r ∷ rs) = pick r.applies r.number (lowest_in rs)

unfoldable pub none_applies : List NumberRow → Bool
none_applies rs = every (λ r. not r.applies) rs

-- a call's number: the lowest of its rows that applies, in the order in which it asks them; 0 exactly if none does; and else one of its own numbers
pub record Numbered (n : ℕ) (rs : List NumberRow) : Type 0 where
  pub lowest : n ≡ lowest_in rs
  pub zero-exactly : (n ≡ 0) ↔ (none_applies rs ≡ true)
  pub own : (n ≡ 0 → ⊥) → In n (map (λ (r : NumberRow). r.number) rs)

-- ---- what the numbers ask of a message

-- the message is of the subset
abbrev pub is_read : One → Bool
is_read (one g kids e) = true
is_read none = false

-- its root is `alert` of the namespace; where there is no root nothing is asked of it
abbrev pub root_is : List ℕ → One → Bool
root_is s (one g kids e) = root_ok s (g.from + 1) g.name
root_is s none = true

-- sender and identifier: 1 to 64 bytes, 33 to 126, without comma, `<`, `&`
abbrev pub is_identity : List ℕ → Bool
is_identity v = every holds (between 1 64 (length v) ∷ every (λ b. between 33 126 b && not (one_of (44 ∷ 60 ∷ 38 ∷ []) b)) v ∷ [])

-- 1 to 16 groups `sender,identifier,sent` parted by space
abbrev pub are_groups : List ℕ → Bool
are_groups v =
    every holds (
    between 1 16 (length (words v))
    ∷ every (λ w. every holds (is_identity (sender_of w) ∷ is_identity (identifier_of w) ∷ is_time (time_of (sent_of w)) ∷ [])) (words v)
    ∷ []
    )

-- the fields at fault: 1 identifier, 2 sender, 3 sent, 4 status, 5 msgType, 6 scope, each exactly once, not empty, its value one that it may have; 7 any other
-- read leaf
abbrev pub field_rows : List ℕ → List NumberRow
field_rows s =
    row 1 (not (once s (prefix s) "identifier" (alert s) && is_identity (identifier s)))
    ∷ row 2 (not (once s (prefix s) "sender" (alert s) && is_identity (sender s)))
    ∷ row 3 (not (once s (prefix s) "sent" (alert s) && is_time (time_of (sent s))))
    ∷ row 4 (not (once s (prefix s) "status" (alert s) && is_one ("Actual" ∷ "Exercise" ∷ "System" ∷ "Test" ∷ "Draft" ∷ []) (status s)))
    ∷ row 5 (not (once s (prefix s) "msgType" (alert s) && is_one ("Alert" ∷ "Update" ∷ "Cancel" ∷ "Ack" ∷ "Error" ∷ []) (msg_type s)))
    ∷ row 6 (not (once s (prefix s) "scope" (alert s) && is_one ("Public" ∷ "Restricted" ∷ "Private" ∷ []) (scope s)))
    ∷ row 7 (not (languages_sound s (prefix s) (alert s) && info_sound s (prefix s) (info s)))
    ∷ []

-- 7 also returns its field, the lowest of 1 to 6 at fault, else 7; beside any other number the field is 0
abbrev pub field_beside : ℕ → List ℕ → ℕ
field_beside n s = pick (eqb n 7) (lowest_in (field_rows s)) 0

-- 4 message length; 5 not of the subset; 6 root; 7 a read leaf at fault; 8 status not Actual, or scope not Public; 9 msgType Ack or Error
abbrev pub message_rows : List ℕ → List NumberRow
message_rows s =
    row 4 (not (between 1 32768 (length s)))
    ∷ row 5 (not (is_read (doc_at s)))
    ∷ row 6 (not (root_is s (doc_at s)))
    ∷ row 7 (not (none_applies (field_rows s)))
    ∷ row 8 (not (is "Actual" (status s) && is "Public" (scope s)))
    ∷ row 9 (is_one ("Ack" ∷ "Error" ∷ []) (msg_type s))
    ∷ []

-- three letters A to Z
abbrev pub is_event : List ℕ → Bool
is_event v = every holds (eqb (length v) 3 ∷ every is_capital v ∷ [])

-- 10 references missing, malformed or over 16, asked of Update and Cancel; a quiet Cancel isn't asked 11 to 14: 11 SAME event absent, twice or malformed;
-- 12 originator; 13 SAME location absent or malformed; 14 expires absent, malformed or not after sent
abbrev pub header_rows : List ℕ → List NumberRow
header_rows s =
    row 10 (is_one ("Update" ∷ "Cancel" ∷ []) (msg_type s) && not (once s (prefix s) "references" (alert s) && are_groups (references s)))
    ∷ row 11 (not (is_quiet s) && not (eqb (length (events s)) 1 && is_event (first_value (events s))))
    ∷ row 12 (not (is_quiet s) && not (is_one ("PEP" ∷ "EAS" ∷ "WXR" ∷ "CIV" ∷ []) (originator s)))
    ∷ row 13 (not (is_quiet s) && not (not (is_none (locations s)) && every is_six (locations s)))
    ∷ row 14 (not (is_quiet s) && not (is_time (time_of (expires s)) && ltb (sent_seconds s) (expires_seconds s)))
    ∷ []

-- 4 to 14
abbrev pub taken_rows : List ℕ → List NumberRow
taken_rows s = message_rows s ++ header_rows s

-- ---- conversion asks 2 to 14, in each of its calls

-- LLLLLLLL: exactly 8 bytes, 32 to 126, not `-` or `+`
abbrev pub is_station : List ℕ → Bool
is_station t = every holds (eqb (length t) 8 ∷ every (λ b. every holds (between 32 126 b ∷ not (eqb b 45) ∷ not (eqb b 43) ∷ [])) t ∷ [])

-- 2 lent output short, which asks in each only what that call writes; both take the station: 3
abbrev pub call_rows : Bool → List ℕ → List ℕ → List NumberRow
call_rows long s station = row 2 (not long) ∷ row 3 (not (is_station station)) ∷ taken_rows s

-- header 252
abbrev pub heading_rows : List ℕ → List ℕ → ℕ → List NumberRow
heading_rows s station header = call_rows (leb 252 header) s station

-- text 7,200, uri 1,024
abbrev pub texting_rows : List ℕ → List ℕ → ℕ → ℕ → List NumberRow
texting_rows s station text uri = call_rows (every holds (leb 7200 text ∷ leb 1024 uri ∷ [])) s station

-- ---- the Canadian mode asks 2, 4 to 9, then 18

-- 2 asks the text and uri outputs only; 18, neither such a value nor a non-empty description
abbrev pub canadian_rows : List ℕ → ℕ → ℕ → List NumberRow
canadian_rows s text uri =
    row 2 (not (every holds (leb 7200 text ∷ leb 1024 uri ∷ [])))
    ∷ (message_rows s
    ++ (row 18 (is_none (broadcast_values s) && is "" (description s)) ∷ []))

-- ---- an offer to a board asks 1 and 4 to 15

-- a board holds 1 to 170 records of 384 bytes; the filled ones first, strictly ascending by bytes, each keeping its own rules; the rest all zero
abbrev pub is_board : List ℕ → Bool
is_board b =
    every holds (
    between 1 170 (length b / 384)
    ∷ eqb (length b % 384) 0
    ∷ ascending (board_of b)
    ∷ every record_ok (board_of b)
    ∷ zeros (drop (length (board_of b) * 384) b)
    ∷ []
    )

-- how many records are empty
abbrev pub empties_in : List ℕ → ℕ
empties_in b = length b / 384 - length (board_of b)

-- 1 board length or content breaks the rules; 15 fewer empty records than must be added
abbrev pub offer_rows : List ℕ → List ℕ → List NumberRow
offer_rows b s =
    row 1 (not (is_board b))
    ∷ (taken_rows s
    ++ (row 15 (ltb (empties_in b) (length (new_to (board_of b) (message_records s)))) ∷ []))

-- ---- a hand-out of a board asks 1, 16, 15 in that order

-- 16 nothing due
abbrev pub hand_out_rows : List ℕ → List NumberRow
hand_out_rows b =
    row 1 (not (is_board b))
    ∷ row 16 (is_none (due_headers (board_of b)))
    ∷ row 15 (ltb (empties_in b) 1)
    ∷ []

-- ---- the list of a board, with so many rows lent, asks 1, 2

-- 2 rows below the due count
abbrev pub list_rows : List ℕ → ℕ → List NumberRow
list_rows b rows =
    row 1 (not (is_board b))
    ∷ row 2 (ltb rows (length (due_headers (board_of b))))
    ∷ []

-- ---- a header

-- reading one asks 17: header unreadable
abbrev pub read_rows : List ℕ → List NumberRow
read_rows s = row 17 (not (header_form s)) ∷ []

-- writing one into an output of so many bytes asks 2, 3, 17: parts that no header has
abbrev pub write_rows : ℕ → Parts → List NumberRow
write_rows room p =
    row 2 (not (leb 252 room))
    ∷ row 3 (not (is_station p.station))
    ∷ row 17 (not (body_ok p.body))
    ∷ []
