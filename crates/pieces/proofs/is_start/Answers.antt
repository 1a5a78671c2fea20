-- A letter, or `_`.
use mathlib.Core.Path.{◌≡◌, sym, ◌∙◌}
use mathlib.Core.Bool.{true}
use Rattle.pieces.specs.Classes.{is_start}
use Rattle.pieces.proofs.is_start.Goals as goal

pub returns-then-is_letter : goal.returns-then-is_letter
unfolding is_start
returns-then-is_letter c =
    let t : true ≡ is_start c.args.b = rw (sym c.is_letter.ensures ∙ c.if-is_letter.true) in
    c.if-is_letter.true ∙ t

pub returns-else-is_letter : goal.returns-else-is_letter
unfolding is_start
returns-else-is_letter c = rw (sym c.is_letter.ensures ∙ c.if-is_letter.false)
