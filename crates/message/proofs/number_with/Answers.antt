use mathlib.Core.Path.{◌∙◌, ap}
use mathlib.Core.Bool.{not}
use borrow.Author.Tests.{eq-eqb, ne_eqb}
use Rattle.message.specs.WorkingJudged.{number_with}
use Rattle.message.proofs.Leaves.{same-actual, same-public, other_type, ack-error}
use Rattle.message.proofs.number_with.Goals as goal
use Rattle.message.proofs.number_with.Goals.{then-ne-via-then-ne, then-ne-via-else-ne+then-ne-2}

pub returns-then-field-ne0 : goal.returns-then-field-ne0
unfolding number_with
returns-then-field-ne0 c = rw (ne_eqb _ 0 c.if-field-ne0.true)

pub returns-then-ne : goal.returns-then-ne
unfolding number_with
returns-then-ne c = elim c.then-ne.branch [
  | then-ne-via-then-ne w ↦ rw (eq-eqb _ 0 c.if-field-ne0.false, same-actual c.args.status _ c.ne.ensures ∙ ap not w.if-ne.true)
  | then-ne-via-else-ne+then-ne-2 w ↦
      rw (eq-eqb _ 0 c.if-field-ne0.false, same-actual c.args.status _ c.ne.ensures ∙ ap not w.if-ne.false, same-public c.args.scope _ w.ne-else-ne.ensures ∙ ap not w.if-ne-2.true)
]

pub returns-in-Ack : goal.returns-in-Ack
unfolding number_with
returns-in-Ack c =
    rw (eq-eqb _ 0 c.if-field-ne0.false, same-actual c.args.status _ c.ne.ensures ∙ ap not c.if-ne.false, same-public c.args.scope _ c.ne-else-ne.ensures ∙ ap not c.if-ne-2.false, ack-error _ c.in-Ack.is)

pub returns-in_default : goal.returns-in_default
unfolding number_with
returns-in_default c =
    rw (
      eq-eqb _ 0 c.if-field-ne0.false,
      same-actual c.args.status _ c.ne.ensures ∙ ap not c.if-ne.false,
      same-public c.args.scope _ c.ne-else-ne.ensures ∙ ap not c.if-ne-2.false,
      other_type _ c.in_default.not-Ack c.in_default.not-Error,
    )
