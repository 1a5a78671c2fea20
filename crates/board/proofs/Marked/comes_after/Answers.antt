-- By the mark and by the order of the two headers.
use mathlib.Core.Path.{sym, ◌∙◌}
use Rattle.ledger.specs.WorkingBoard.{live}
use Rattle.slots.specs.WorkingSlots.{rec}
use Rattle.slots.specs.Slots.{recs}
use Rattle.board.proofs.Finds.{mark-at, unmarked, marked}
use Rattle.board.proofs.Marked.comes_after.Goals as goal

pub returns-then-self-i : goal.returns-then-self-i
returns-then-self-i c =
    let a = c.args in
    let b = recs a.self.now.n a.self.now.s.now in
    c.is_lt.ensures ∙ marked b a.last.now (rec a.i a.self.now.s.now) _ (sym (mark-at (live b) a.self.now.s.now a.self.now.n a.i a.self.now.marks a.self.now.told c.requires) ∙ c.if-self-i.true) c.compare_header.ensures

pub returns-else-self-i : goal.returns-else-self-i
returns-else-self-i c =
    let a = c.args in
    let b = recs a.self.now.n a.self.now.s.now in
    c.if-self-i.false ∙ unmarked b a.last.now (rec a.i a.self.now.s.now) (sym (mark-at (live b) a.self.now.s.now a.self.now.n a.i a.self.now.marks a.self.now.told c.requires) ∙ c.if-self-i.false)
