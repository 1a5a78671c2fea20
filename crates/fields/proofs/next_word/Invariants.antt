-- Each turn puts a character of the word as one byte, and what is left of it is the word from i on; a space or the end of the value ends it.
use Prim.Native.Nat.{◌-◌}
use lib.ListN.{length}
use Rattle.fields.proofs.Words.{Wording}
use Rattle.fields.proofs.next_word.Given as goal

abbrev pub invariant-loop-c : goal.invariant-loop-c
invariant-loop-c l = Wording l.s l.at l.initial.out l.out l.i l.k

abbrev pub decreases-loop-c : goal.decreases-loop-c
decreases-loop-c l = length l.s - l.i
