-- The digits from index i on give, behind v, what they all give; v has i digits.
use mathlib.Core.Path.{◌≡◌}
use Prim.Native.Nat.{◌^◌, ◌<◌}
use lib.ListN.{drop}
use Rattle.octets.specs.Digits.{all_digits, value_from, value}
use Rattle.octets.proofs.number.Given as goal

abbrev pub invariant-loop-b : goal.invariant-loop-b
invariant-loop-b l =
    (l.v < 10 ^ l.b-index)
    × (value_from l.v (drop l.b-index l.b-items) ≡ value l.b-items)
    × (all_digits (drop l.b-index l.b-items) ≡ all_digits l.b-items)
