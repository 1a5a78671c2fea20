-- Calls on one board, one after the other.
use Rattle.std.specs.Prelude.{ℕ, zero, suc, ◌≡◌, true, List, [], ◌∷◌, ◌++◌, map, eqb, get_or}
use Rattle.octets.specs.Bytes.{pick}
use Rattle.records.specs.Record.{carried}
use Rattle.ledger.specs.Sorted.{In}
use Rattle.ledger.specs.WorkingBoard.{Alert, records, Call, offered, handed_out}
use Rattle.board.specs.WorkingRules.{Records, board_ok}
use Rattle.board.specs.Rules.{board_of}
use Rattle.board.specs.WorkingCalls.{offer_of, hand_of}

-- a board that keeps the rules and has no filled record
pub record Empty (s : List ℕ) : Type 0 where
  pub keeps : board_ok s ≡ true
  pub none : board_of s ≡ []

-- the records of an alert keep their rules
abbrev pub Ruled : Alert → Type 0
Ruled a = Records (records a)

abbrev pub AllRuled : List Alert → Type 0
AllRuled l = (a : Alert) → In a l → Ruled a

-- offers of these alerts, one after the other, are all taken
abbrev pub AllTaken : List Alert → List ℕ → Type 0
AllTaken [] s = Unit {0}
AllTaken (a ∷ l) s = ((offer_of s (records a)).answer.number ≡ 0) × AllTaken l (offer_of s (records a)).bytes

-- the header that a hand-out gives: that of the notice at the index answered; none where it is refused
abbrev pub given_by : List ℕ → List (List ℕ)
given_by s = pick (eqb (hand_of s).answer.number 0) (carried (get_or (board_of s) (hand_of s).answer.index []) ∷ []) []

-- what n hand-outs give
abbrev pub hands_from : ℕ → List ℕ → List (List ℕ)
hands_from zero s = []
hands_from (suc n) s = given_by s ++ hands_from n (hand_of s).bytes

-- ---- any mixture of offers and hand-outs

-- the bytes after one call, the headers that it hands out, and the alert that it takes
abbrev pub step_to : Call → List ℕ → List ℕ
step_to (offered a) s = (offer_of s (records a)).bytes
step_to handed_out s = (hand_of s).bytes

abbrev pub step_gives : Call → List ℕ → List (List ℕ)
step_gives (offered a) s = []
step_gives handed_out s = given_by s

abbrev pub step_takes : Call → List ℕ → List Alert
step_takes (offered a) s = pick (eqb (offer_of s (records a)).answer.number 0) (a ∷ []) []
step_takes handed_out s = []

-- the bytes after a run of calls
abbrev pub after_calls : List Call → List ℕ → List ℕ
after_calls [] s = s
after_calls (c ∷ cs) s = after_calls cs (step_to c s)

-- and after offers alone
abbrev pub offers_to : List Alert → List ℕ → List ℕ
offers_to l s = after_calls (map offered l) s

-- the headers handed out, and the alerts taken
abbrev pub given_over : List Call → List ℕ → List (List ℕ)
given_over [] s = []
given_over (c ∷ cs) s = step_gives c s ++ given_over cs (step_to c s)

abbrev pub taken_over : List Call → List ℕ → List Alert
taken_over [] s = []
taken_over (c ∷ cs) s = step_takes c s ++ taken_over cs (step_to c s)
