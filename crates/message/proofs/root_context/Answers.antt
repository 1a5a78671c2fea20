-- By the test.
use Rattle.message.specs.WorkingMessage.{root_context}
use Rattle.message.proofs.root_context.Goals as goal

pub returns-then-ok : goal.returns-then-ok
unfolding root_context
returns-then-ok c = rw c.if-ok.true

pub returns-else-ok : goal.returns-else-ok
unfolding root_context
returns-else-ok c = rw c.if-ok.false
