-- Both tests, as the code has them.
use mathlib.Core.Bool.{and-true}
use borrow.Author.Tests.{le-leb, lt-leb}
use Rattle.octets.specs.Bytes.{every}
use Rattle.outputs.specs.WorkingOutputs.{roomy_text}
use Rattle.outputs.proofs.is_roomy.Goals as goal

pub returns-then-text-ge-TEXT : goal.returns-then-text-ge-TEXT
unfolding roomy_text every
returns-then-text-ge-TEXT c = rw (le-leb _ _ c.if-text-ge-TEXT.true, and-true)

pub returns-else-text-ge-TEXT : goal.returns-else-text-ge-TEXT
unfolding roomy_text every
returns-else-text-ge-TEXT c = rw (lt-leb _ _ c.if-text-ge-TEXT.false)
