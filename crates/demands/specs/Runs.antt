-- Messages offered to one board, and hand-outs of it, one after the other. A message is its bytes, and so is a board; c are the calls. A header is one with its year.
use Rattle.std.specs.Prelude.{ℕ, zero, suc, ◌≡◌, true, false, List, [], ◌∷◌, ◌++◌, eqb, get_or}
use Rattle.octets.specs.Bytes.{pick}
use Rattle.records.specs.Record.{carried}
use Rattle.ledger.specs.Sorted.{In}
use Rattle.board.specs.Rules.{board_of}
use Rattle.demands.specs.Calls.{Calls}
use Rattle.demands.specs.Message.{is_quiet}
use Rattle.demands.specs.Board.{own_key, own_dated, named_keys}
use Rattle.demands.specs.Numbers.{none_applies, taken_rows, is_board}

-- an empty board
pub record Empty (b : List ℕ) : Type 0 where
  pub keeps : is_board b ≡ true
  pub none : board_of b ≡ []

-- the board after offers
abbrev pub after_offers : Calls → List (List ℕ) → List ℕ → List ℕ
after_offers c [] b = b
after_offers c (m ∷ ms) b = after_offers c ms (c.offering b m).bytes

-- no offer is refused for room
abbrev pub NoneFull : Calls → List (List ℕ) → List ℕ → Type 0
NoneFull c [] b = Unit {0}
NoneFull c (m ∷ ms) b = ((c.offering b m).answer.number ≡ 15 → ⊥) × NoneFull c ms (c.offering b m).bytes

-- a message that is taken wherever there is room: none of 4 to 14 applies
abbrev pub Takes : List ℕ → Type 0
Takes m = none_applies (taken_rows m) ≡ true

-- a taken message carried the header, without its station, whose sender, identifier and time no taken Update or Cancel names
pub record CarriedBy (ms : List (List ℕ)) (h : List ℕ) : Type 0 where
  pub by : List ℕ
  pub offered : In by ms
  pub taken : Takes by
  pub not-quiet : is_quiet by ≡ false
  pub carries : own_dated by ≡ h
  pub not_named : (m : List ℕ) → In m ms → Takes m → In (own_key by) (named_keys m) → ⊥

-- ---- hand-outs

-- the header that a hand-out gives: that of the notice at the index answered; none where it is refused
abbrev pub header_given : Calls → List ℕ → List (List ℕ)
header_given c b = pick (eqb (c.handing b).answer.number 0) (carried (get_or (board_of b) (c.handing b).answer.index []) ∷ []) []

-- what n hand-outs give
abbrev pub hand_outs : Calls → ℕ → List ℕ → List (List ℕ)
hand_outs c zero b = []
hand_outs c (suc n) b = header_given c b ++ hand_outs c n (c.handing b).bytes

-- ---- any mixture of offers and hand-outs

pub data BoardCall : Type 0 where
  offers : List ℕ → BoardCall
  hands_out : BoardCall

-- the headers that it hands out, in order
abbrev pub handed_out : Calls → List BoardCall → List ℕ → List (List ℕ)
handed_out c [] b = []
handed_out c (offers m ∷ cs) b = handed_out c cs (c.offering b m).bytes
handed_out c (hands_out ∷ cs) b = header_given c b ++ handed_out c cs (c.handing b).bytes

-- no header twice
abbrev pub Once : List (List ℕ) → Type 0
Once [] = Unit {0}
Once (h ∷ hs) = (In h hs → ⊥) × Once hs
