-- One test after the other; hours and minutes make the period.
use mathlib.Core.Path.{sym, ◌∙◌}
use native.Mathlib.Omega.{arith}
use borrow.Author.Tests.{eq-eqb, ne_eqb}
use Rattle.header.proofs.Reading.{period-refused, period-decided}
use Rattle.octets.proofs.Numbers.{ranged-no, ranged-high-of}
use Rattle.header.proofs.period_of.Goals as goal

pub returns-then-t-ne43 : goal.returns-then-t-ne43
returns-then-t-ne43 c = sym (period-refused 0 _ (ne_eqb _ _ c.if-t-ne43.true))

pub returns-in_err-hours : goal.returns-in_err-hours
returns-in_err-hours c = c.from_residual.ensures ∙ sym (period-refused 1 _ (ranged-no 0 99 _ (sym c.ranged.ensures ∙ c.in_err-hours.was)))

pub returns-in_err-minutes : goal.returns-in_err-minutes
returns-in_err-minutes c = c.from_residual-in_err-minutes.ensures ∙ sym (period-refused 2 _ (ranged-no 0 59 _ (sym c.ranged-2.ensures ∙ c.in_err-minutes.was)))

pub overflow_mul-period : goal.overflow_mul-period
overflow_mul-period c = omega (arith, ranged-high-of 0 99 _ _ (sym c.ranged.ensures ∙ c.in_ok-hours.was))

pub overflow_add-period : goal.overflow_add-period
overflow_add-period c =
    omega (arith, ranged-high-of 0 99 _ _ (sym c.ranged.ensures ∙ c.in_ok-hours.was), ranged-high-of 0 59 _ _ (sym c.ranged-2.ensures ∙ c.in_ok-minutes.was))

pub returns : goal.returns
returns c =
    c.then_some.ensures
    ∙ sym (period-decided _ _ _ _ (eq-eqb _ _ c.if-t-ne43.false) (sym c.ranged.ensures ∙ c.in_ok-hours.was) (sym c.ranged-2.ensures ∙ c.in_ok-minutes.was) c.is_period.ensures)
