-- At the message's end no root begins.
use mathlib.Core.Path.{◌∙◌}
use Rattle.reader.proofs.Forward.{root-past}
use Rattle.message.specs.WorkingMessage.{of_root}
use Rattle.message.proofs.read_at.Goals as goal

pub returns-then-n-i : goal.returns-then-n-i
unfolding of_root
returns-then-n-i c =
    let a = c.args in
    c.refused.ensures ∙ rw (root-past a.s.now a.i c.if-n-i.true)
