-- Byte by byte, highest first.
use mathlib.Core.Path.{◌∙◌}
use native.Mathlib.Omega.{arith}
use Rattle.octets.proofs.Parts.{part-listed}
use Rattle.records.specs.Record.{sent_in}
use Rattle.records.proofs.sent_of.Goals as goal

pub returns : goal.returns
unfolding sent_in
returns c = omega (arith, rw (c.bytes_at.ensures ∙ part-listed c.args.key.now 0 4 c.requires) at c.from_be_bytes.ensures)
