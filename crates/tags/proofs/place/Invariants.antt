-- The loop goes the way of w, which rises from node to node: what is left of it is the whole.
use Prim.Native.Nat.{◌-◌}
use Rattle.tags.specs.WorkingTree.{nodes}
use Rattle.tags.proofs.Trees.{OnWay}
use Rattle.tags.proofs.place.Given as goal

abbrev pub invariant-loop-k : goal.invariant-loop-k
invariant-loop-k l = OnWay l.s l.t l.w nodes l.d l.k

abbrev pub decreases-loop-k : goal.decreases-loop-k
decreases-loop-k l = nodes - l.k
