-- Each turn puts one byte more, which is `put_one_lem`.
use mathlib.Core.Path.{◌≡◌}
use lib.Seq.{sets}
use Rattle.calm.specs.WorkingCalm.{soft_at}
use Rattle.calm.proofs.put_calm.Given as goal

abbrev pub invariant-loop-k : goal.invariant-loop-k
invariant-loop-k l = l.out ≡ sets l.initial.out l.e (soft_at l.s l.i l.k)
