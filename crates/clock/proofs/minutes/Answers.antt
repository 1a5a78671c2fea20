-- A refusal names the test that failed; the value is made of the hours and minutes that were read.
use mathlib.Core.Path.{sym, ◌∙◌}
use native.Mathlib.Omega.{arith}
use borrow.Author.Tests.{ne_eqb}
use Rattle.octets.proofs.Numbers.{ranged-no}
use Rattle.clock.proofs.Pieces.{Hours, read_no, hours-most, minute-most, minutes-yes}
use Rattle.clock.proofs.minutes.Goals as goal

-- what has been read
read : (c : goal.In_ok-minutes) → let a = c.args in Hours a.t.now a.at a.most c.in_ok-hours.hours c.in_ok-minutes.minutes
read c =
    record {
      hour-read = sym c.ranged.ensures ∙ c.in_ok-hours.was;
      colon = c.if-t-at-ne58.false;
      minute-read = sym c.ranged-2.ensures ∙ c.in_ok-minutes.was;
    }

pub returns-in_err-hours : goal.returns-in_err-hours
returns-in_err-hours c = c.from_residual.ensures ∙ sym (read_no _ _ 0 (ranged-no _ _ _ (sym c.ranged.ensures ∙ c.in_err-hours.was)))

pub returns-then-t-at-ne58 : goal.returns-then-t-at-ne58
returns-then-t-at-ne58 c = sym (read_no _ _ 1 (ne_eqb _ _ c.if-t-at-ne58.true))

pub returns-in_err-minutes : goal.returns-in_err-minutes
returns-in_err-minutes c = c.from_residual-in_err-minutes.ensures ∙ sym (read_no _ _ 2 (ranged-no _ _ _ (sym c.ranged-2.ensures ∙ c.in_err-minutes.was)))

pub overflow_mul-result : goal.overflow_mul-result
overflow_mul-result c = omega (arith, hours-most (read c))

pub overflow_add-result : goal.overflow_add-result
overflow_add-result c = omega (arith, hours-most (read c), minute-most (read c))

pub returns : goal.returns
returns c = sym (minutes-yes (read c))
