-- Three runs, one behind the other.
use native.Mathlib.Omega.{arith}
use lib.ListN.{length-append}
use Rattle.octets.specs.Text.{bytes}
use Rattle.sentence.proofs.Writers.{then}
use Rattle.report.specs.Lines.{line, audio_line}
use Rattle.report.proofs.put_audio.Goals as goal

pub put-requires : goal.put-requires
unfolding audio_line line bytes
put-requires c = omega (arith, simp length-append at c.requires)

pub put_audio_words-requires : goal.put_audio_words-requires
unfolding audio_line line bytes
put_audio_words-requires c = omega (arith, simp length-append at c.requires)

pub put-requires-2 : goal.put-requires-2
unfolding audio_line line bytes
put-requires-2 c = omega (arith, simp length-append at c.requires)

pub returns : goal.returns
unfolding audio_line line bytes
returns c = then (then c.put.ensures c.put_audio_words.ensures) c.put-2.ensures
