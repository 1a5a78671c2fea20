-- An offer of a message to a board as one definition, by which the code is specified: 1 the board, 4 to 14 the message, 15 too few empty records.
use Rattle.std.specs.Prelude.{ℕ, List, eqb}
use Rattle.octets.specs.Bytes.{pick}
use Rattle.judgement.specs.WorkingJudged.{judged_of}
use Rattle.board.specs.WorkingRules.{board_ok}
use Rattle.board.specs.WorkingCalls as board
use Rattle.offers.specs.WorkingRecords.{records_of}
use Rattle.offers.specs.Offer.{MessageOffering}

-- a refusal returns its number, and beside 7 its field, zeros elsewhere, and changes nothing
abbrev pub offer_refused_by : ℕ → ℕ → List ℕ → MessageOffering
offer_refused_by number field s = record { answer = record { number = number; field = field; added = 0 }; bytes = s }

-- the records are offered, all or none; added is the growth in filled records
abbrev pub offer_given : board.Offering → MessageOffering
offer_given o = record { answer = record { number = o.answer.number; field = 0; added = o.answer.added }; bytes = o.bytes }

unfoldable pub message_offer : List ℕ → List ℕ → MessageOffering
message_offer s message =
    pick (board_ok s)
    (pick (eqb (judged_of message).number 0) (offer_given (board.offer_of s (records_of message))) (offer_refused_by (judged_of message).number (judged_of message).field s))
    (offer_refused_by 1 0 s)
