-- The last digits stand; the others, put before them, give what all of them give.
use mathlib.Core.Path.{◌≡◌}
use lib.Seq.{sets}
use Rattle.octets.specs.Digits.{digits}
use Rattle.octets.proofs.put_number.Given as goal

abbrev pub invariant-loop-k : goal.invariant-loop-k
invariant-loop-k l = sets l.out l.at (digits l.k l.rest) ≡ sets l.initial.out l.at (digits l.n l.v)
