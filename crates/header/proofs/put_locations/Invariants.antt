-- What is left to put behind k locations is what was left at the start.
use Prim.Native.Nat.{◌+◌, ◌*◌}
use mathlib.Core.Path.{◌≡◌}
use lib.ListN.{drop}
use lib.Seq.{sets}
use Rattle.header.specs.Body.{locations_bytes}
use Rattle.header.proofs.put_locations.Given as goal

abbrev pub invariant-loop-k : goal.invariant-loop-k
invariant-loop-k l = sets l.out (l.at + 7 * l.k) (locations_bytes (drop l.k l.locations)) ≡ sets l.initial.out l.at (locations_bytes l.locations)
