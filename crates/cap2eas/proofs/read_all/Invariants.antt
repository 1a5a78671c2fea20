use Rattle.std.proofs.Common.{◌≤◌, length}
use Rattle.cap2eas.proofs.read_all.Given as goal

abbrev pub invariant-loop : goal.invariant-loop
invariant-loop g l = l.n ≤ length l.message
