-- What is counted and what is left to count make the whole.
use Rattle.records.specs.Record.{carried}
use Prim.Native.Nat.{◌+◌, ◌≤◌}
use mathlib.Core.Path.{◌≡◌}
use lib.ListN.{drop}
use Rattle.ledger.specs.WorkingBoard.{live, count_of}
use Rattle.slots.specs.WorkingSlots.{rec}
use Rattle.slots.specs.Slots.{recs}
use Rattle.board.proofs.Marked.count_alike.Given as goal

abbrev pub invariant-loop-i : goal.invariant-loop-i
invariant-loop-i l = (l.count ≤ l.i) × (l.count + count_of (live (recs l.self.n l.self.s.now)) (carried (rec l.j l.self.s.now)) (drop l.i (recs l.self.n l.self.s.now)) ≡ count_of (live (recs l.self.n l.self.s.now)) (carried (rec l.j l.self.s.now)) (recs l.self.n l.self.s.now))
