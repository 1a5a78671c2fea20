-- Five runs, one behind the other.
use native.Mathlib.Omega.{arith}
use lib.ListN.{length-append}
use Rattle.octets.specs.Text.{bytes}
use Rattle.sentence.proofs.Writers.{then}
use Rattle.report.specs.Lines.{line, number_line}
use Rattle.report.proofs.put_number.Goals as goal

pub put-requires : goal.put-requires
unfolding number_line line bytes
put-requires c = omega (arith, simp length-append at c.requires)

pub put_decimal-requires : goal.put_decimal-requires
unfolding number_line line bytes
put_decimal-requires c = omega (arith, simp length-append at c.requires)

pub put-requires-2 : goal.put-requires-2
unfolding number_line line bytes
put-requires-2 c = omega (arith, simp length-append at c.requires)

pub put_decimal-requires-2 : goal.put_decimal-requires-2
unfolding number_line line bytes
put_decimal-requires-2 c = omega (arith, simp length-append at c.requires)

pub put-requires-3 : goal.put-requires-3
unfolding number_line line bytes
put-requires-3 c = omega (arith, simp length-append at c.requires)

pub returns : goal.returns
unfolding number_line line bytes
returns c = then (then (then (then c.put.ensures c.put_decimal.ensures) c.put-2.ensures) c.put_decimal-2.ensures) c.put-3.ensures
