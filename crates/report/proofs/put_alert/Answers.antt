-- Four lines, one behind the other.
use native.Mathlib.Omega.{arith}
use lib.ListN.{length-append}
use Rattle.octets.specs.Text.{bytes}
use Rattle.sentence.proofs.Writers.{then}
use Rattle.report.specs.Lines.{alert_lines}
use Rattle.report.proofs.put_alert.Goals as goal

pub put_value-requires : goal.put_value-requires
unfolding alert_lines bytes
put_value-requires c = omega (arith, simp length-append at c.requires)

pub put_audio-requires : goal.put_audio-requires
unfolding alert_lines bytes
put_audio-requires c = omega (arith, simp length-append at c.requires)

pub put_carry-requires : goal.put_carry-requires
unfolding alert_lines bytes
put_carry-requires c = omega (arith, simp length-append at c.requires)

pub put_value-requires-2 : goal.put_value-requires-2
unfolding alert_lines bytes
put_value-requires-2 c = omega (arith, simp length-append at c.requires)

pub returns : goal.returns
unfolding alert_lines bytes
returns c = then (then (then c.put_value.ensures c.put_audio.ensures) c.put_carry.ensures) c.put_value-2.ensures
