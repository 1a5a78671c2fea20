-- The slice is the record.
use Rattle.slots.proofs.Records.{part-rec}
use Rattle.slots.proofs.record_at.Goals as goal

pub returns : goal.returns
returns c = part-rec c.args.s.now c.args.i
