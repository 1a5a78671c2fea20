-- After i records the board is the list with those inserted, and its own bytes behind it.
use Prim.Native.Nat.{◌*◌}
use mathlib.Core.List.{◌++◌}
use mathlib.Core.Path.{◌≡◌}
use lib.ListN.{length, drop}
use Rattle.ledger.specs.Sorted.{insert_all}
use Rattle.slots.specs.WorkingSlots.{flat}
use Rattle.slots.specs.Slots.{recs}
use Rattle.slots.proofs.add_all.Given as goal

abbrev pub invariant-loop-r : goal.invariant-loop-r
invariant-loop-r l = (length l.s ≡ length l.initial.s) × (l.k ≡ length (insert_all (recs l.r-index l.batch) (recs l.n l.initial.s))) × (l.s ≡ flat (insert_all (recs l.r-index l.batch) (recs l.n l.initial.s)) ++ drop (l.k * 384) l.initial.s)
