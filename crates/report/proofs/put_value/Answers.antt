-- Three runs, one behind the other.
use mathlib.Core.Path.{ap}
use native.Mathlib.Omega.{arith}
use lib.ListN.{length, length-append}
use Rattle.sentence.proofs.Writers.{then}
use Rattle.report.specs.Lines.{line, value_line}
use Rattle.report.proofs.put_value.Goals as goal

pub put-requires : goal.put-requires
unfolding value_line line
put-requires c = omega (arith, simp length-append at c.requires)

pub put-requires-2 : goal.put-requires-2
unfolding value_line line
put-requires-2 c = omega (arith, simp length-append at c.requires, ap length c.or_none.ensures)

pub put-requires-3 : goal.put-requires-3
unfolding value_line line
put-requires-3 c = omega (arith, simp length-append at c.requires, ap length c.or_none.ensures)

pub returns : goal.returns
unfolding value_line line
returns c = rw c.or_none.ensures at (then (then c.put.ensures c.put-2.ensures) c.put-3.ensures)
