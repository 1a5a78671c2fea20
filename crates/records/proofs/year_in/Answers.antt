-- Byte by byte, high byte first.
use mathlib.Core.Path.{◌∙◌}
use native.Mathlib.Omega.{arith}
use Rattle.octets.proofs.Parts.{part-listed}
use Rattle.records.specs.Record.{year_in}
use Rattle.records.proofs.year_in.Goals as goal

pub returns : goal.returns
unfolding year_in
returns c = omega (arith, rw (c.bytes_at.ensures ∙ part-listed c.args.header.now 243 2 (omega (arith, c.requires))) at c.from_be_bytes.ensures, c.from.ensures)
