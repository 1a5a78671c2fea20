-- What 32 bits do not hold lies outside, and of the rest the test decides.
use mathlib.Core.Path.{sym, ◌∙◌}
use mir.Facts.{to_z-of_z}
use Rattle.clock.proofs.Times.{span-not, span-is}
use Rattle.clock.proofs.in_span.Goals as goal

pub returns-in_err-seconds : goal.returns-in_err-seconds
returns-in_err-seconds c =
    c.from_residual.ensures ∙ sym (span-not _ _ _ (to_z-of_z c.ranges.t) c.try_from.ensures (sym c.in_err-seconds.was ∙ c.ok.ensures.value))

pub returns : goal.returns
returns c = c.then_some.ensures ∙ sym (span-is _ _ _ _ (to_z-of_z c.ranges.t) c.try_from.ensures (sym c.in_ok-seconds.was ∙ c.ok.ensures.value))
