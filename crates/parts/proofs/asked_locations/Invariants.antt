-- Behind k locations the rest of the digits decides, and the list has the first k.
use Prim.Native.Nat.{◌-◌, ◌*◌, ◌/◌}
use mathlib.Core.Path.{◌≡◌}
use lib.ListN.{length, drop}
use lib.Seq.{sets}
use Rattle.octets.specs.Digits.{all_digits}
use Rattle.parts.specs.Parts.{padded}
use Rattle.parts.specs.WorkingAsked.{sixes}
use Rattle.parts.proofs.asked_locations.Given as goal

abbrev pub invariant-loop-k : goal.invariant-loop-k
invariant-loop-k l = record {
  long : length l.list ≡ 31;
  digits : all_digits (drop (6 * l.k) l.s) ≡ all_digits l.s;
  list : sets l.list l.k (sixes (length l.s / 6 - l.k) l.s (6 * l.k)) ≡ padded (sixes (length l.s / 6) l.s 0);
}
