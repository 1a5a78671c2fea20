-- Behind k locations the rest decides, and the list has the first k.
use Prim.Native.Nat.{◌+◌, ◌-◌, ◌*◌}
use mathlib.Core.Path.{◌≡◌}
use lib.ListN.{length}
use lib.Seq.{sets}
use Rattle.header.specs.Body.{locations_form, locations_of}
use Rattle.parts.specs.Parts.{padded}
use Rattle.header.proofs.locations_of.Given as goal

abbrev pub invariant-loop-k : goal.invariant-loop-k
invariant-loop-k l = record {
  long : length l.list ≡ 31;
  form : locations_form (l.n - l.k) l.s (l.at + 7 * l.k) ≡ locations_form l.n l.s l.at;
  list : sets l.list l.k (locations_of (l.n - l.k) l.s (l.at + 7 * l.k)) ≡ padded (locations_of l.n l.s l.at);
}
