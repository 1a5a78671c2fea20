-- `read_content` and `read_element` call each other: twice the depth falls at each call, and one more for `read_content`. The loop of
-- `read_content` reads what is left of the content into the state (Passes).
use Prim.Native.Nat.{◌+◌, ◌-◌}
use lib.ListN.{length}
use Rattle.gather.proofs.Passes as pass
use Rattle.gather.proofs.+read_content_read_element.Given as goal

abbrev pub decreases-read_content : goal.decreases-read_content
decreases-read_content l = l.depth + l.depth + 1

abbrev pub decreases-read_element : goal.decreases-read_element
decreases-read_element l = l.depth + l.depth

abbrev pub invariant-read_content-loop-j : goal.invariant-read_content-loop-j
invariant-read_content-loop-j l = pass.Passing l.s l.p l.c l.depth l.at l.initial.st l.i l.st

abbrev pub decreases-read_content-loop-j : goal.decreases-read_content-loop-j
decreases-read_content-loop-j l = length l.s - l.i
