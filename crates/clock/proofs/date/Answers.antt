-- A refusal names the test that failed; the day number is made of the year, the month and the day that were read.
use Prim.Native.Nat.{◌+◌, ◌≤◌}
use mathlib.Core.Path.{sym, ◌∙◌}
use native.Mathlib.Omega.{arith}
use borrow.Author.Tests.{ne_eqb}
use Rattle.octets.proofs.Numbers.{ranged-no, ranged-low-of, ranged-high-of}
use Rattle.clock.proofs.Pieces.{Month, read_no, day-fits, date-yes, day-no}
use Rattle.clock.proofs.date.Goals as goal

-- what has been read before the day
read : (c : goal.After-days_before) → Month c.args.t.now c.in_ok-year.year c.in_ok-month.month c.is_leap-leap.result c.month_days.result
read c =
    record {
      year-read = sym c.ranged.ensures ∙ c.in_ok-year.was;
      dash = c.if-t-ne45.false;
      month-read = sym c.ranged-2.ensures ∙ c.in_ok-month.was;
      dash-2 = c.if-t-ne45-2.false;
      leap-is = c.is_leap-leap.ensures;
      most-is = c.month_days.ensures;
    }

-- the sum
fits : (c : goal.After-days_before) → c.days_to.result + c.days_before.result + c.in_ok-day.day ≤ 3652426
fits c = day-fits (read c) _ _ _ (sym c.ranged-3.ensures ∙ c.in_ok-day.was) c.days_to.ensures c.days_before.ensures

pub returns-in_err-year : goal.returns-in_err-year
returns-in_err-year c = c.from_residual.ensures ∙ sym (read_no _ _ 0 (ranged-no _ _ _ (sym c.ranged.ensures ∙ c.in_err-year.was)))

pub returns-then-t-ne45 : goal.returns-then-t-ne45
returns-then-t-ne45 c = sym (read_no _ _ 1 (ne_eqb _ _ c.if-t-ne45.true))

pub returns-in_err-month : goal.returns-in_err-month
returns-in_err-month c = c.from_residual-in_err-month.ensures ∙ sym (read_no _ _ 2 (ranged-no _ _ _ (sym c.ranged-2.ensures ∙ c.in_err-month.was)))

pub returns-then-t-ne45-2 : goal.returns-then-t-ne45-2
returns-then-t-ne45-2 c = sym (read_no _ _ 3 (ne_eqb _ _ c.if-t-ne45-2.true))

pub month_days-requires : goal.month_days-requires
month_days-requires c = let r = sym c.ranged-2.ensures ∙ c.in_ok-month.was in record { le_month = ranged-low-of _ _ _ _ r; month_bound = ranged-high-of _ _ _ _ r }

pub returns-in_err-day : goal.returns-in_err-day
returns-in_err-day c =
    let before : Month c.args.t.now c.in_ok-year.year c.in_ok-month.month c.is_leap-leap.result c.month_days.result
    = record {
      year-read = sym c.ranged.ensures ∙ c.in_ok-year.was;
      dash = c.if-t-ne45.false;
      month-read = sym c.ranged-2.ensures ∙ c.in_ok-month.was;
      dash-2 = c.if-t-ne45-2.false;
      leap-is = c.is_leap-leap.ensures;
      most-is = c.month_days.ensures;
    } in
    c.from_residual-in_err-day.ensures ∙ sym (day-no before (sym c.ranged-3.ensures ∙ c.in_err-day.was))

pub days_to-requires : goal.days_to-requires
days_to-requires c = ranged-high-of _ _ _ _ (sym c.ranged.ensures ∙ c.in_ok-year.was)

pub days_before-requires : goal.days_before-requires
days_before-requires c = let r = sym c.ranged-2.ensures ∙ c.in_ok-month.was in record { le_month = ranged-low-of _ _ _ _ r; month_bound = omega (arith, ranged-high-of _ _ _ _ r) }

pub overflow_add-result : goal.overflow_add-result
overflow_add-result c = omega (arith, fits c)

pub overflow_sub-result : goal.overflow_sub-result
overflow_sub-result c = ranged-low-of _ _ _ _ (sym c.ranged-3.ensures ∙ c.in_ok-day.was)

pub overflow_add-result-2 : goal.overflow_add-result-2
overflow_add-result-2 c = omega (arith, fits c)

pub returns : goal.returns
returns c = sym (date-yes (read c) _ _ _ (sym c.ranged-3.ensures ∙ c.in_ok-day.was) c.days_to.ensures c.days_before.ensures)
