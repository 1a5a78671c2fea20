-- By the mark and by the two headers.
use mathlib.Core.Path.{sym, ◌∙◌}
use Rattle.records.specs.Record.{carried}
use Rattle.ledger.specs.WorkingBoard.{live}
use Rattle.slots.specs.WorkingSlots.{rec}
use Rattle.slots.specs.Slots.{recs}
use Rattle.board.proofs.Finds.{mark-at, not_alike, alike-by}
use Rattle.board.proofs.Marked.alike.Goals as goal

pub returns-then-self-i : goal.returns-then-self-i
returns-then-self-i c =
    let a = c.args in
    let p = live (recs a.self.now.n a.self.now.s.now) in
    c.same_header.ensures ∙ alike-by p (carried (rec a.j a.self.now.s.now)) (rec a.i a.self.now.s.now) (sym (mark-at p a.self.now.s.now a.self.now.n a.i a.self.now.marks a.self.now.told c.requires.1) ∙ c.if-self-i.true)

pub returns-else-self-i : goal.returns-else-self-i
returns-else-self-i c =
    let a = c.args in
    let p = live (recs a.self.now.n a.self.now.s.now) in
    let off = sym (mark-at p a.self.now.s.now a.self.now.n a.i a.self.now.marks a.self.now.told c.requires.1) ∙ c.if-self-i.false in
    c.if-self-i.false ∙ sym (not_alike p (carried (rec a.j a.self.now.s.now)) (rec a.i a.self.now.s.now) off)
