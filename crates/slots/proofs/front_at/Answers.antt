-- The slice is the header of the record.
use native.Mathlib.Omega.{arith}
use Rattle.records.specs.Record.{header}
use Rattle.slots.proofs.Records.{rec-part}
use Rattle.slots.proofs.front_at.Goals as goal

pub returns : goal.returns
unfolding header
returns c = rec-part c.args.s.now c.args.i 133 243 (omega arith)
