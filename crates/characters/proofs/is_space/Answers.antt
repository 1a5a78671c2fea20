-- No white space is above 32.
use mathlib.Core.Path.{◌∙◌}
use borrow.Author.Tests.{lt-leb}
use Rattle.characters.proofs.Legals.{space-high}
use Rattle.characters.proofs.is_space.Goals as goal

pub returns-else-c-le32 : goal.returns-else-c-le32
returns-else-c-le32 c = lt-leb _ _ c.if-c-le32.false ∙ space-high c.args.c c.if-c-le32.false
