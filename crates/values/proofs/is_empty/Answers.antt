-- A value has a character exactly where one follows that is no white space, as a mark is.
use mathlib.Core.Path.{sym, ap, ◌∙◌}
use mathlib.Core.Bool.{not}
use Rattle.calm.specs.WorkingCalm.{is_mark}
use Rattle.values.proofs.Absent.{by_none}
use Rattle.values.proofs.Steps.{value-some, value_none, mark-some}
use Rattle.values.proofs.is_empty.Goals as goal

pub returns-then-not-is_mark : goal.returns-then-not-is_mark
returns-then-not-is_mark c =
    by_none c.gap.result _ _ c.is_none.ensures (λ e. value_none _ _ (sym c.gap.ensures ∙ e)) (λ _ j e. value-some _ _ _ _ (sym c.gap.ensures ∙ e))

pub returns-else-not-is_mark : goal.returns-else-not-is_mark
returns-else-not-is_mark c =
    let a = c.args in
    ap not c.if-not-is_mark.false
    ∙ sym (mark-some a.s.now a.at (ap is_mark (sym c.byte.ensures) ∙ sym c.is_mark.ensures ∙ c.if-not-is_mark.false))
