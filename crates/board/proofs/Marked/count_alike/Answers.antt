use Rattle.records.specs.Record.{carried}
use native.Mathlib.Omega.{arith}
use Rattle.ledger.specs.WorkingBoard.{live}
use Rattle.slots.specs.WorkingSlots.{rec}
use Rattle.slots.specs.Slots.{recs}
use Rattle.board.proofs.Finds.{count-on, count-end}
use Rattle.board.proofs.Marked.count_alike.Goals as goal
use Rattle.board.proofs.Marked.count_alike.Goals.{then-alike, else-alike}

pub loop-i-preserved : goal.loop-i-preserved
loop-i-preserved c =
    let l = c.loop-i in
    let a = c.args in
    let h = carried (rec a.j a.self.now.s.now) in
    let p = live (recs a.self.now.n a.self.now.s.now) in
    let on = count-on p h a.self.now.s.now a.self.now.n l.i l.count l.invariant.1 c.alike.result c.loop-i-test.true c.alike.ensures in
    elim c.if-alike.branch [
      | then-alike w ↦ let e = w.count-is in let q = rw w.if-alike.true at on in (omega arith, rw e q)
      | else-alike w ↦ let e = w.count-is in let q = rw w.if-alike.false at on in (omega arith, rw e q)
    ]

pub returns : goal.returns
returns c =
    let l = c.loop-i in
    let a = c.args in
    record { value = count-end (live (recs a.self.now.n a.self.now.s.now)) (carried (rec a.j a.self.now.s.now)) a.self.now.s.now a.self.now.n l.i l.count l.invariant.1 c.loop-i-test.false; upper_bound = omega arith }
