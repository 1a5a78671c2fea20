-- Whole messages and boards, computed: what document 01 prints for its sample message, and what the stand-ins are tried on.
--     sample-taken, sample-header, sample-text, sample-printed    the sample is refused by nothing, and gives what is printed under "Figures to hold"
--     first-offer, second-offer                     its offer adds one record, and the same offer again adds none
--     both-offered, both-due                        after offers of two messages both headers are due, in byte order
use Prim.Native.Nat.{ℕ}
use mathlib.Core.Path.{◌≡◌, refl}
use mathlib.Core.Bool.{true, false}
use mathlib.Core.List.{List, [], ◌∷◌, ◌++◌}
use lib.ListN.{length, replicate}
use Rattle.octets.specs.Text.{bytes}
use Rattle.board.specs.Rules.{board_of}
use Rattle.report.specs.Program.{printed}
use Rattle.demands.specs.Calls.{library}
use Rattle.demands.specs.Message.{is_quiet, whole_header, whole_text, whole_in_canada}
use Rattle.demands.specs.Board.{due_headers}
use Rattle.demands.specs.Numbers.{lowest_in, none_applies, call_rows, canadian_rows, is_board, empties_in}
use Rattle.demands.specs.Runs.{after_offers, hand_outs}
use Rattle.demands.specs.StandIns.{sample, other, bench, sample_dated, none_held, one_held, two_due, nothing_after_first}
use Rattle.demands.proofs.Opens.{computing}

-- ---- conversions

-- outputs that are long enough
pub sample-taken : none_applies (call_rows true sample bench) ≡ true
unfolding computing
sample-taken = refl

pub sample-loud : is_quiet sample ≡ false
unfolding computing
sample-loud = refl

abbrev sample_text : List ℕ
sample_text =
    bytes "Civil authorities issued Civil Emergency Message for locations 024031, valid from 18:00 UTC on day 095 for 00 hours 45 minutes."
    ++ bytes " Message from County Bench. Water main broken. Boil water."

pub sample-header : whole_header sample bench ≡ record { header = bytes "ZCZC-CIV-CEM-024031+0045-0951800-BENCH/01-"; carry = false }
unfolding computing
sample-header = refl

pub sample-text : whole_text sample ≡ record { text = sample_text; audio = 0; uri = [] }
unfolding computing
sample-text = refl

-- the program's lines
pub sample-printed : printed (record { headed = library.heading sample bench 252; worded = library.texting sample bench 7200 1024 }) ≡
    bytes "number 0 field 0\nheader ZCZC-CIV-CEM-024031+0045-0951800-BENCH/01-\naudio none\ncarry no\ntext " ++ (sample_text ++ bytes "\n")
unfolding computing
sample-printed = refl

-- in the Canadian mode
pub sample-taken-in-canada : none_applies (canadian_rows sample 7200 1024) ≡ true
unfolding computing
sample-taken-in-canada = refl

pub sample-in-canada : whole_in_canada sample ≡ record { text = bytes "Water main broken. Boil water."; audio = 0; uri = [] }
unfolding computing
sample-in-canada = refl

pub other-taken : none_applies (call_rows true other bench) ≡ true
unfolding computing
other-taken = refl

-- with a station that is none: 3
pub sample-unnamed : lowest_in (call_rows true sample (bytes "BENCH-01")) ≡ 3
unfolding computing lowest_in
sample-unnamed = refl

-- what the stand-in answers that does not judge it
pub sample-anywhere : (library.texting sample bench 7200 1024).number ≡ 0
unfolding computing
sample-anywhere = refl

pub other-loud : is_quiet other ≡ false
unfolding computing
other-loud = refl

pub other-header : (whole_header other bench).header ≡ bytes "ZCZC-CIV-TOR-024031+0045-0951800-BENCH/01-"
unfolding computing
other-header = refl

-- ---- offers

pub first-offer : library.offering none_held sample ≡ record { answer = record { number = 0; field = 0; added = 1 }; bytes = one_held }
unfolding computing
first-offer = refl

pub second-offer : library.offering one_held sample ≡ record { answer = record { number = 0; field = 0; added = 0 }; bytes = one_held }
unfolding computing
second-offer = refl

pub none_filled : length (board_of none_held) ≡ 0
unfolding computing
none_filled = refl

pub one-filled : length (board_of one_held) ≡ 1
unfolding computing
one-filled = refl

pub both-offered : after_offers library (sample ∷ (other ∷ [])) (replicate 1536 0) ≡ two_due
unfolding computing
both-offered = refl

-- ---- hand-outs

pub two-keeps : is_board two_due ≡ true
unfolding computing
two-keeps = refl

pub two-empty : empties_in two_due ≡ 2
unfolding computing
two-empty = refl

pub both-due : due_headers (board_of two_due) ≡ sample_dated "CEM" ∷ (sample_dated "TOR" ∷ [])
unfolding computing
both-due = refl

pub only-first : hand_outs nothing_after_first 2 two_due ≡ sample_dated "CEM" ∷ []
unfolding computing
only-first = refl
