-- White space is gone over at once, and so is each stretch of a run; behind it the loop moves on by a character while the text does, which is `through`.
use Prim.Native.Nat.{◌-◌, ◌≤◌}
use mathlib.Core.Logic.{◌⊎◌}
use lib.ListN.{length}
use Rattle.octets.proofs.Scans.{ScanningBy}
use Rattle.characters.specs.Utf8.{width_at}
use Rattle.pieces.specs.Pieces.{in_text}
use Rattle.pieces.proofs.run.Given as goal

abbrev pub invariant-loop-at : goal.invariant-loop-at
invariant-loop-at l = ScanningBy (width_at l.s) (in_text l.s) (length l.s) l.at l.i × (l.i ≤ l.j ⊎ l.i ≤ length l.s)

abbrev pub decreases-loop-at : goal.decreases-loop-at
decreases-loop-at l = length l.s - l.i
