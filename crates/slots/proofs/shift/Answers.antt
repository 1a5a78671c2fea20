-- The bytes are moved up by a record.
use mathlib.Core.Path.{◌∙◌}
use Rattle.slots.proofs.Records.{moved}
use Rattle.slots.proofs.shift.Goals as goal

pub returns : goal.returns
returns c = c.copy_within.ensures.after ∙ moved c.args.s.now c.args.from c.args.to c.requires.0
