-- What the digits from k on give behind v is what they all give; v stays below the most that k digits give.
use Prim.Native.Nat.{◌≤◌}
use mathlib.Core.Path.{◌≡◌}
use lib.ListN.{drop}
use Rattle.pieces.specs.Pieces.{numeral_from}
use Rattle.pieces.proofs.Numerals.{cap}
use Rattle.pieces.proofs.numeral.Given as goal

abbrev pub invariant-loop-b : goal.invariant-loop-b
invariant-loop-b l = (l.v ≤ cap l.b-index) × (numeral_from l.base l.v (drop l.b-index l.digits) ≡ numeral_from l.base 0 l.digits)
