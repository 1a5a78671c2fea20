-- count rows stand, and the scan behind the last of their headers finds the next.
use Prim.Native.Nat.{◌-◌}
use mathlib.Core.Path.{◌≡◌}
use Rattle.std.specs.Prelude.{unwrap_or, IfSome, ◌<◌}
use lib.ListN.{length}
use Rattle.ledger.specs.WorkingBoard.{due}
use Rattle.slots.specs.Slots.{recs}
use Rattle.board.proofs.Finds.{Standing}
use Rattle.board.proofs.Marked.due_rows.Given as goal

abbrev pub invariant-loop-next : goal.invariant-loop-next
invariant-loop-next l =
    (length l.initial.rows ≡ 170) × IfSome l.next (λ j. j < l.self.n) × Standing l.self.n l.self.s.now l.initial.rows l.rows l.count (unwrap_or l.next l.self.n)

abbrev pub decreases-loop-next : goal.decreases-loop-next
decreases-loop-next l = length (due (recs l.self.n l.self.s.now)) - l.count
