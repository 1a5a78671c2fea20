-- The loop keeps the tree of the names read (Keeps); what is left behind a full tree is read by the call to itself, which begins further on.
use Prim.Native.Nat.{◌-◌}
use Rattle.tags.proofs.Keeps.{Kept}
use lib.ListN.{length}
use Rattle.tags.proofs.+many.Given as goal

-- what each call asks and promises
abbrev pub invariant-loop-n : goal.invariant-loop-n
invariant-loop-n l = Kept l.s l.names l.at l.i l.n

abbrev pub decreases-many : goal.decreases-many
decreases-many l = length l.s.now - l.at
