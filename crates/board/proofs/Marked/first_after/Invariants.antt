-- best is that of the first i records.
use Rattle.slots.specs.Slots.{recs}
use Rattle.ledger.specs.WorkingScan.{after}
use Rattle.board.specs.WorkingMarks.{Scanned}
use Rattle.board.proofs.Marked.first_after.Given as goal

abbrev pub invariant-loop-i : goal.invariant-loop-i
invariant-loop-i l = Scanned l.self.n (after (recs l.self.n l.self.s.now) l.last) (recs l.i l.self.s.now) l.best
