-- Each of the two cases is the definition in its range.
use mathlib.Core.Path.{◌∙◌}
use Rattle.clock.proofs.Periods.{period-quarters, period-halves}
use Rattle.clock.proofs.period.Goals as goal

pub returns-then-seconds-le2700 : goal.returns-then-seconds-le2700
returns-then-seconds-le2700 c = rw c.div_ceil.ensures (period-quarters _ c.if-seconds-le2700.true)

pub returns-else-seconds-le2700 : goal.returns-else-seconds-le2700
returns-else-seconds-le2700 c =
    c.min.ensures ∙ rw c.div_ceil-else-seconds-le2700.ensures (period-halves _ c.if-seconds-le2700.false)
