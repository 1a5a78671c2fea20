-- As many rows are lent as can be due, and of a longer run none is stored.
use Rattle.std.proofs.Common.{ℕ, min, ◌≡◌, ◌∙◌, ap, List, ◌++◌, length, take, drop}
use Rattle.std.proofs.lemmas.List.Edits.{sets}
use Rattle.ledger.specs.declared.Row.{Row}
use Rattle.board.specs.WorkingCalls.{list_of, blanks}
use Rattle.board.specs.Calls.{Listing}
use Rattle.board.proofs.Answers.{list-within, list-lent}
use Rattle.board.proofs.Fills.{fill-front, lent-is, lent-long}
use Rattle.board.proofs.list_rows.Goals as goal

-- the list is the same with so many rows
lent_same : (s : List ℕ) (room m : ℕ) → m ≡ min room 170 → list_of s (length (take m blanks)) ≡ list_of s room
lent_same s room m e = let lends = lent-is room m e in ap (list_of s) (lent-long room m lends ∙ lends) ∙ list-lent s room

pub returns-clause-answer_value : goal.returns-clause-answer_value
returns-clause-answer_value c = c.list-answer.ensures.value ∙ ap (λ (o : Listing). o.answer) (lent_same c.args.s.now c.args.room _ c.min-most.ensures)

pub returns-clause-rows_value : goal.returns-clause-rows_value
returns-clause-rows_value c =
    let s = c.args.s.now in
    let m = c.min-most.result in
    let n = length (take m blanks) in
    ap (λ (y : List Row). y ++ drop m blanks) c.list-answer.ensures.rows_after
    ∙ fill-front blanks (list_of s n).rows m (list-within s n)
    ∙ ap (λ (o : Listing). sets blanks 0 o.rows) (lent_same s c.args.room m c.min-most.ensures)
