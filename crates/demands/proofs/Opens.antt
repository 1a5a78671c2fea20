-- What whole messages and boards are computed with: `converting`, and what the demands, an offer and a hand-out are made of. To unfold a name is to unfold all that
-- its own line names.
use mathlib.Core.List.{flat_map}
use Rattle.header.specs.Body.{body_of}
use Rattle.leaves.specs.Leaf.{decoded, leaf_value}
use Rattle.records.specs.Record.{aired, aired_in, behind, carried, dated, dated_ok, header, header_of, header_ok, key, key_of, key_ok, notice, pad, record_ok, rest, sent_in, stamp_in, withdrawal, year_in, zero_filled}
use Rattle.ledger.specs.WorkingBoard.{carries, due, live, rows_of, unwithdrawn}
use Rattle.board.specs.WorkingCalls.{hand_of, list_of}
use Rattle.board.specs.WorkingCalls as board-calls
use Rattle.board.specs.Rules.{board_of}
use Rattle.board.specs.WorkingRules.{board_ok, encode}
use Rattle.canadian.specs.Canadian.{canadian_text}
use Rattle.offers.specs.WorkingOffer as offers-offer
use Rattle.offers.specs.WorkingRecords.{alert_by, zero_filled_header, named_by, own_in, records_of}
use Rattle.demands.specs.Message.{header_body, whole_header, whole_text, whole_in_canada}
use Rattle.demands.specs.Numbers.{none_applies}
use Rattle.worked.proofs.Opens.{converting}

leaves-opens : Unit {0}
unfolding decoded leaf_value
leaves-opens = tt

records-opens : Unit {0}
unfolding body_of aired aired_in behind carried dated dated_ok header header_of header_ok key key_of key_ok notice pad record_ok rest sent_in stamp_in withdrawal year_in zero_filled
records-opens = tt

ledger-opens : Unit {0}
unfolding carries due live rows_of unwithdrawn
ledger-opens = tt

board-opens : Unit {0}
unfolding hand_of list_of board-calls.offer_of board_of board_ok encode
board-opens = tt

offers-opens : Unit {0}
unfolding offers-offer.message_offer alert_by zero_filled_header named_by own_in records_of
offers-opens = tt

demands-opens : Unit {0}
unfolding header_body whole_header whole_text whole_in_canada canadian_text none_applies
demands-opens = tt

unfoldable pub computing : Unit {0}
unfolding flat_map converting leaves-opens records-opens ledger-opens board-opens offers-opens demands-opens
computing = tt
