-- No dash, and then whether it is a character by itself.
use mathlib.Core.Path.{◌≡◌, ◌∙◌}
use Rattle.octets.specs.Bytes.{every, one_of, between}
use Rattle.characters.specs.Utf8.{is_legal, is_single}
use Rattle.pieces.specs.WorkingClasses.{is_comment_byte}
use Rattle.pieces.proofs.Inside.{quiet-rest}
use Rattle.pieces.proofs.is_comment_byte.Goals as goal

pub returns-else-b-ne45 : goal.returns-else-b-ne45
unfolding is_comment_byte is_single is_legal one_of between every
returns-else-b-ne45 c = let b = c.args.b in let e : b ≡ 45 = c.if-b-ne45.false in rw e

pub returns-then-b-ne45 : goal.returns-then-b-ne45
returns-then-b-ne45 c = c.is_single.ensures ∙ quiet-rest c.args.b c.if-b-ne45.true
