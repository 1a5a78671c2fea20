-- Three runs, one behind the other.
use native.Mathlib.Omega.{arith}
use lib.ListN.{length-append}
use Rattle.octets.specs.Text.{bytes}
use Rattle.sentence.proofs.Writers.{then}
use Rattle.report.specs.Lines.{kind_then_uri}
use Rattle.report.proofs.put_spaced.Goals as goal

pub put-requires : goal.put-requires
unfolding kind_then_uri bytes
put-requires c = omega (arith, simp length-append at c.requires)

pub put-requires-2 : goal.put-requires-2
unfolding kind_then_uri bytes
put-requires-2 c = omega (arith, simp length-append at c.requires)

pub put-requires-3 : goal.put-requires-3
unfolding kind_then_uri bytes
put-requires-3 c = omega (arith, simp length-append at c.requires)

pub returns : goal.returns
unfolding kind_then_uri bytes
returns c = then (then c.put.ensures c.put-2.ensures) c.put-3.ensures
