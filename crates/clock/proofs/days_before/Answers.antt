-- The table is that of a year that is no leap year; from March on a leap year has one day more.
use mathlib.Core.Path.{sym, ◌∙◌}
use native.Mathlib.Omega.{arith}
use borrow.Author.Tests.{le-leb, lt-leb}
use Rattle.clock.proofs.Calendar.{plain-most, before-is}
use Rattle.clock.proofs.days_before.Goals.{else-month-gt2-via-then-month-gt2+else-leap, else-month-gt2-via-else-month-gt2}
use Rattle.clock.proofs.days_before.Goals as goal

pub overflow_add-result : goal.overflow_add-result
overflow_add-result c = omega (arith, plain-most _ c.requires.le_month c.requires.month_bound)

pub returns-then-leap : goal.returns-then-leap
returns-then-leap c =
    let a = c.args in
    sym (before-is a.leap a.month c.requires.le_month c.requires.month_bound ∙ rw (le-leb 3 a.month c.if-month-gt2.true, c.if-leap.true))

pub returns-else-month-gt2 : goal.returns-else-month-gt2
returns-else-month-gt2 c =
    let a = c.args in
    let is = before-is a.leap a.month c.requires.le_month c.requires.month_bound in
    elim c.else-month-gt2.branch [
      | else-month-gt2-via-then-month-gt2+else-leap w ↦ sym (is ∙ rw (le-leb 3 a.month w.if-month-gt2.true, w.if-leap.false))
      | else-month-gt2-via-else-month-gt2 w ↦ sym (is ∙ rw (lt-leb 3 a.month (omega arith)))
    ]
