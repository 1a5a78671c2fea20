-- Either line whole.
use mathlib.Core.Path.{ap}
use native.Mathlib.Omega.{arith}
use Rattle.octets.specs.Text.{bytes}
use Rattle.sentence.proofs.Writers.{named}
use Rattle.report.specs.Lines.{line, carry_line}
use Rattle.report.proofs.put_carry.Goals as goal

pub put-requires : goal.put-requires
unfolding carry_line line bytes
put-requires c = omega (arith, rw c.if-carry.true at c.requires)

pub put-requires-else-carry : goal.put-requires-else-carry
unfolding carry_line line bytes
put-requires-else-carry c = omega (arith, rw c.if-carry.false at c.requires)

pub returns-then-carry : goal.returns-then-carry
unfolding carry_line line bytes
returns-then-carry c = named c.put.ensures _ (ap carry_line c.if-carry.true)

pub returns-else-carry : goal.returns-else-carry
unfolding carry_line line bytes
returns-else-carry c = named c.put-else-carry.ensures _ (ap carry_line c.if-carry.false)
