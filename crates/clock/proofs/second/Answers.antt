-- A refusal names the test that failed; the value is made of the minutes and seconds that were read.
use mathlib.Core.Path.{sym, ◌∙◌}
use native.Mathlib.Omega.{arith}
use borrow.Author.Tests.{ne_eqb}
use Rattle.octets.proofs.Numbers.{ranged-no}
use Rattle.clock.proofs.Pieces.{Seconds, read_no, read-not, second-yes, second_fits}
use Rattle.clock.proofs.second.Goals as goal

-- what has been read
read : (c : goal.In_ok-second) → Seconds c.args.t.now c.in_ok-minute.minute c.in_ok-second.second
read c =
    record {
      letter = c.if-t-ne84.false;
      minutes-read = sym c.minutes.ensures ∙ c.in_ok-minute.was;
      colon = c.if-t-ne58.false;
      second-read = sym c.ranged.ensures ∙ c.in_ok-second.was;
    }

pub returns-then-t-ne84 : goal.returns-then-t-ne84
returns-then-t-ne84 c = sym (read_no _ _ 0 (ne_eqb _ _ c.if-t-ne84.true))

pub returns-in_err-minute : goal.returns-in_err-minute
returns-in_err-minute c = c.from_residual.ensures ∙ sym (read_no _ _ 1 (read-not _ _ (sym c.minutes.ensures ∙ c.in_err-minute.was)))

pub returns-then-t-ne58 : goal.returns-then-t-ne58
returns-then-t-ne58 c = sym (read_no _ _ 2 (ne_eqb _ _ c.if-t-ne58.true))

pub returns-in_err-second : goal.returns-in_err-second
returns-in_err-second c = c.from_residual-in_err-second.ensures ∙ sym (read_no _ _ 3 (ranged-no _ _ _ (sym c.ranged.ensures ∙ c.in_err-second.was)))

pub overflow_mul-result : goal.overflow_mul-result
overflow_mul-result c = omega (arith, second_fits (read c))

pub overflow_add-result : goal.overflow_add-result
overflow_add-result c = omega (arith, second_fits (read c))

pub returns : goal.returns
returns c = sym (second-yes (read c))
