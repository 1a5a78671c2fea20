-- One test after the other.
use mathlib.Core.Path.{sym, ◌∙◌}
use borrow.Author.Tests.{eq-eqb, ne_eqb}
use Rattle.header.proofs.Reading.{time-refused, time-taken}
use Rattle.octets.proofs.Numbers.{ranged-yes, ranged-no}
use Rattle.header.proofs.time_of.Goals as goal

pub returns-then-t-ne45 : goal.returns-then-t-ne45
returns-then-t-ne45 c = sym (time-refused 0 _ (ne_eqb _ _ c.if-t-ne45.true))

pub returns-in_err-day : goal.returns-in_err-day
returns-in_err-day c = c.from_residual.ensures ∙ sym (time-refused 1 _ (ranged-no 1 366 _ (sym c.ranged.ensures ∙ c.in_err-day.was)))

pub returns-in_err-hour : goal.returns-in_err-hour
returns-in_err-hour c = c.from_residual-in_err-hour.ensures ∙ sym (time-refused 2 _ (ranged-no 0 23 _ (sym c.ranged-2.ensures ∙ c.in_err-hour.was)))

pub returns-in_err-minute : goal.returns-in_err-minute
returns-in_err-minute c = c.from_residual-in_err-minute.ensures ∙ sym (time-refused 3 _ (ranged-no 0 59 _ (sym c.ranged-3.ensures ∙ c.in_err-minute.was)))

pub returns-then-t-ne45-2 : goal.returns-then-t-ne45-2
returns-then-t-ne45-2 c = sym (time-refused 4 _ (ne_eqb _ _ c.if-t-ne45-2.true))

pub returns : goal.returns
returns c =
    let d = ranged-yes 1 366 _ _ (sym c.ranged.ensures ∙ c.in_ok-day.was) in
    let h = ranged-yes 0 23 _ _ (sym c.ranged-2.ensures ∙ c.in_ok-hour.was) in
    let m = ranged-yes 0 59 _ _ (sym c.ranged-3.ensures ∙ c.in_ok-minute.was) in
    sym (time-taken _ _ _ _ (eq-eqb _ _ c.if-t-ne45.false, (d.0, (h.0, (m.0, (eq-eqb _ _ c.if-t-ne45-2.false, tt))))) d.1 h.1 m.1)
