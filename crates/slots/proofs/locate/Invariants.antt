-- The place among all the records is that among those left, as many further on as have been passed.
use mathlib.Core.Path.{◌≡◌}
use lib.ListN.{drop}
use Rattle.slots.specs.Slots.{recs}
use Rattle.slots.specs.WorkingSlots.{place_of}
use Rattle.slots.proofs.Records.{laters}
use Rattle.slots.proofs.locate.Given as goal

abbrev pub invariant-loop-i : goal.invariant-loop-i
invariant-loop-i l = place_of l.r (recs l.n l.s) ≡ laters l.i (place_of l.r (drop l.i (recs l.n l.s)))
