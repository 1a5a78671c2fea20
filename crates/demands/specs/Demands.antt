-- The maintainer's three demands, each a statement over calls c.
use Rattle.std.specs.Prelude.{ℕ, ◌+◌, ◌≤◌, min, ◌≡◌, ◌↔◌, true, false, List, [], ◌∷◌, ◌++◌, map, length, take, drop}
use Rattle.parts.specs.Parts.{no_body, no_station}
use Rattle.parts.specs.declared.Parts.{Parts}
use Rattle.outputs.specs.Outputs.{no_text}
use Rattle.convert.specs.Convert.{no_header}
use Rattle.records.specs.Record.{pad, aired}
use Rattle.ledger.specs.Sorted.{In, insert, insert_all}
use Rattle.board.specs.Rules.{board_of}
use Rattle.told.specs.Values.{first_value}
use Rattle.demands.specs.Calls.{Calls}
use Rattle.demands.specs.Message.{is_quiet, header_parts, Spelt, whole_header, whole_text, whole_in_canada}
use Rattle.demands.specs.Board.{own_header, message_records, due_headers, makes_due, first_index, row_of}
use Rattle.demands.specs.Numbers.{Numbered, none_applies, field_beside, heading_rows, texting_rows, canadian_rows, is_board, empties_in, offer_rows, hand_out_rows, list_rows, read_rows, write_rows}
use Rattle.demands.specs.Runs.{Empty, after_offers, NoneFull, Takes, CarriedBy, hand_outs, BoardCall, handed_out, Once}

-- Bad input gets the refusal number that document 01 gives, no call is refused where none of its numbers applies, and a refused call changes no lent byte and no
-- lent row: it returns its number, and beside 7 its field, zeros elsewhere, and writes nothing.
pub record Demand1 (c : Calls) : Type 0 where
  pub header-numbered : (s station : List ℕ) (h : ℕ) → Numbered (c.heading s station h).number (heading_rows s station h)
  pub header-field : (s station : List ℕ) (h : ℕ) → (c.heading s station h).field ≡ field_beside (c.heading s station h).number s
  pub header_refused : (s station : List ℕ) (h : ℕ) → ((c.heading s station h).number ≡ 0 → ⊥) → (c.heading s station h).given ≡ no_header
  pub text-numbered : (s station : List ℕ) (t u : ℕ) → Numbered (c.texting s station t u).number (texting_rows s station t u)
  pub text-field : (s station : List ℕ) (t u : ℕ) → (c.texting s station t u).field ≡ field_beside (c.texting s station t u).number s
  pub text-refused : (s station : List ℕ) (t u : ℕ) → ((c.texting s station t u).number ≡ 0 → ⊥) → (c.texting s station t u).given ≡ no_text
  pub canadian-numbered : (s : List ℕ) (t u : ℕ) → Numbered (c.canadian s t u).number (canadian_rows s t u)
  pub canadian-field : (s : List ℕ) (t u : ℕ) → (c.canadian s t u).field ≡ field_beside (c.canadian s t u).number s
  pub canadian-refused : (s : List ℕ) (t u : ℕ) → ((c.canadian s t u).number ≡ 0 → ⊥) → (c.canadian s t u).given ≡ no_text
  pub offer-numbered : (b s : List ℕ) → Numbered (c.offering b s).answer.number (offer_rows b s)
  pub offer-field : (b s : List ℕ) → (c.offering b s).answer.field ≡ field_beside (c.offering b s).answer.number s
  pub offer-refused : (b s : List ℕ) → ((c.offering b s).answer.number ≡ 0 → ⊥) → ((c.offering b s).answer.added ≡ 0) × ((c.offering b s).bytes ≡ b)
  pub hand-out-numbered : (b : List ℕ) → Numbered (c.handing b).answer.number (hand_out_rows b)
  pub hand-out-refused : (b : List ℕ) → ((c.handing b).answer.number ≡ 0 → ⊥) → ((c.handing b).answer.index ≡ 0) × ((c.handing b).bytes ≡ b)
  pub list-numbered : (b : List ℕ) (rows : ℕ) → Numbered (c.listing b rows).answer.number (list_rows b rows)
  pub list-refused : (b : List ℕ) (rows : ℕ) → ((c.listing b rows).answer.number ≡ 0 → ⊥) → ((c.listing b rows).answer.count ≡ 0) × ((c.listing b rows).rows ≡ [])
  pub read-numbered : (s : List ℕ) → Numbered (c.reading s).number (read_rows s)
  pub read-refused : (s : List ℕ) → ((c.reading s).number ≡ 0 → ⊥) → (c.reading s).parts ≡ record { body = no_body; station = no_station }
  pub write-numbered : (d : List ℕ) (p : Parts) → Numbered (c.writing d p).answer.number (write_rows (length d) p)
  pub write-refused : (d : List ℕ) (p : Parts) → ((c.writing d p).answer.number ≡ 0 → ⊥) → ((c.writing d p).answer.len ≡ 0) × ((c.writing d p).bytes ≡ d)

-- The header is the one that 47 CFR 11.31 and the ECIG guide give for the message, the alert text and audio choice are those of document 01, and the text never
-- passes 1,800 characters. Reading a written header gives back its originator, event, locations in order, period, time and station; writing what was read from any
-- accepted header gives the same bytes.
pub record Demand2 (c : Calls) : Type 0 where
  pub gives-header : (s station : List ℕ) (h : ℕ) → none_applies (heading_rows s station h) ≡ true → is_quiet s ≡ false →
      (c.heading s station h).given ≡ whole_header s station
  pub gives-text : (s station : List ℕ) (t u : ℕ) → none_applies (texting_rows s station t u) ≡ true → is_quiet s ≡ false →
      (c.texting s station t u).given ≡ whole_text s
  -- a quiet Cancel answers 0, with no header, text or audio
  pub quiet-gives-no-header : (s station : List ℕ) (h : ℕ) → none_applies (heading_rows s station h) ≡ true → is_quiet s ≡ true →
      (c.heading s station h).given ≡ no_header
  pub quiet-gives-no-text : (s station : List ℕ) (t u : ℕ) → none_applies (texting_rows s station t u) ≡ true → is_quiet s ≡ true →
      (c.texting s station t u).given ≡ no_text
  pub text-short : (s station : List ℕ) (t u : ℕ) → Spelt (c.texting s station t u).given.text
  pub canadian-gives-all : (s : List ℕ) (t u : ℕ) → none_applies (canadian_rows s t u) ≡ true → (c.canadian s t u).given ≡ whole_in_canada s
  pub canadian-short : (s : List ℕ) (t u : ℕ) → Spelt (c.canadian s t u).given.text
  pub header-reads-back : (s station : List ℕ) (h : ℕ) → none_applies (heading_rows s station h) ≡ true → is_quiet s ≡ false →
      c.reading (c.heading s station h).given.header ≡ record { number = 0; parts = header_parts s station }
  pub read-gives-back : (d : List ℕ) (p : Parts) → (c.writing d p).answer.number ≡ 0 →
      c.reading (take (c.writing d p).answer.len (c.writing d p).bytes) ≡ record { number = 0; parts = p }
  pub write-gives-back : (s d : List ℕ) → (c.reading s).number ≡ 0 → 252 ≤ length d →
      c.writing d (c.reading s).parts ≡ record { answer = record { number = 0; len = length s }; bytes = s ++ drop (length s) d }

-- "Header" is throughout a header with its year, 245 bytes.
pub record Demand3 (c : Calls) : Type 0 where
  -- a board that keeps the rules keeps them, and its length
  pub offer-keeps : (b m : List ℕ) → is_board b ≡ true → (is_board (c.offering b m).bytes ≡ true) × (length (c.offering b m).bytes ≡ length b)
  pub hand-out-keeps : (b : List ℕ) → is_board b ≡ true → (is_board (c.handing b).bytes ≡ true) × (length (c.handing b).bytes ≡ length b)
  -- an offer adds the records of its message, and returns how many were added: the growth in filled records
  pub offer-adds : (b m : List ℕ) → (c.offering b m).answer.number ≡ 0 → board_of (c.offering b m).bytes ≡ insert_all (message_records m) (board_of b)
  pub added-is-growth : (b m : List ℕ) → length (board_of (c.offering b m).bytes) ≡ length (board_of b) + (c.offering b m).answer.added
  -- a message is taken if its offer answers 0
  pub taken-exactly : (b m : List ℕ) → is_board b ≡ true → ((c.offering b m).answer.number ≡ 15 → ⊥) → ((c.offering b m).answer.number ≡ 0) ↔ Takes m
  -- a hand-out adds the aired record of the first due header, and returns the index of the smallest notice that makes it due
  pub hand-out-adds : (b : List ℕ) → (c.handing b).answer.number ≡ 0 → board_of (c.handing b).bytes ≡ insert (aired (first_value (due_headers (board_of b)))) (board_of b)
  pub hand-out-index : (b : List ℕ) → (c.handing b).answer.number ≡ 0 → (c.handing b).answer.index ≡ first_index (makes_due (board_of b) (first_value (due_headers (board_of b)))) (board_of b)
  -- the list gives one row per due header, ordered by header, then year, and returns their number
  pub list-rows : (b : List ℕ) (rows : ℕ) → (c.listing b rows).answer.number ≡ 0 →
      ((c.listing b rows).rows ≡ map (row_of (board_of b)) (due_headers (board_of b))) × ((c.listing b rows).answer.count ≡ length (due_headers (board_of b)))
  -- a header on a board, without its year, is the conversion's without its station
  pub on-board : (s station : List ℕ) (h : ℕ) → none_applies (heading_rows s station h) ≡ true → is_quiet s ≡ false →
      (front : List ℕ) × (own_header s ≡ pad 243 front) × ((c.heading s station h).given.header ≡ front ++ (station ++ (45 ∷ [])))
  -- Offer the same alerts to two empty boards, each in its own order, each alert once or more, with no hand-out between and no offer refused for room. The filled
  -- records are then equal byte by byte.
  pub same-records : (b b' : List ℕ) → Empty b → Empty b' → (ms ms' : List (List ℕ)) → ((m : List ℕ) → In m ms → In m ms') → ((m : List ℕ) → In m ms' → In m ms) →
      NoneFull c ms b → NoneFull c ms' b' → board_of (after_offers c ms b) ≡ board_of (after_offers c ms' b')
  -- A header with its year is then due exactly if a taken message carried it whose sender, identifier and time no taken Update or Cancel names.
  pub due-exactly : (b : List ℕ) → Empty b → (ms : List (List ℕ)) → NoneFull c ms b → (h : List ℕ) → In h (due_headers (board_of (after_offers c ms b))) ↔ CarriedBy ms h
  -- Hand-outs, while there is room, then give each due header with its year once, in byte order.
  pub in_order : (b : List ℕ) → is_board b ≡ true → (n : ℕ) → hand_outs c n b ≡ take (min n (empties_in b)) (due_headers (board_of b))
  -- Over any mixture of offers and hand-outs on a board that began empty, no header with its year is handed out twice.
  pub never-twice : (b : List ℕ) → Empty b → (cs : List BoardCall) → Once (handed_out c cs b)

-- Of the two calls of a conversion: on every message both give the same number and field when all outputs are long enough.
pub record BothAlike (c : Calls) : Type 0 where
  pub same_number : (s station : List ℕ) (h t u : ℕ) → 252 ≤ h → 7200 ≤ t → 1024 ≤ u → (c.heading s station h).number ≡ (c.texting s station t u).number
  pub same-field : (s station : List ℕ) (h t u : ℕ) → 252 ≤ h → 7200 ≤ t → 1024 ≤ u → (c.heading s station h).field ≡ (c.texting s station t u).field

pub record Demands (c : Calls) : Type 0 where
  pub first : Demand1 c
  pub second : Demand2 c
  pub third : Demand3 c
