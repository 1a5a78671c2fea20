-- Each turn puts a run of calm bytes at once and the bytes of the character behind it, and what is left to put is what is left of them.
use Prim.Native.Nat.{◌-◌}
use lib.ListN.{length}
use Rattle.calm.proofs.Calms.{Near}
use Rattle.values.proofs.Loops.{Spelling}
use Rattle.values.proofs.spell.Given as goal

abbrev pub invariant-loop-count : goal.invariant-loop-count
invariant-loop-count l = Spelling l.s l.at l.g l.initial.out l.to l.out l.next l.count l.end × Near l.s l.at l.next

abbrev pub decreases-loop-count : goal.decreases-loop-count
decreases-loop-count l = length l.s - l.next
