-- A number of minutes fits its bits, with either sign.
use Prim.Native.Nat.{◌<◌, ◌^◌}
use mathlib.Core.Path.{◌∙◌}
use native.Mathlib.Omega.{arith}
use borrow.Author.Tests.{eq-eqb, ne_eqb}
use Rattle.clock.specs.Time.{signed}
use Rattle.clock.proofs.Signed.{minus-fits, minus_is, unsigned}
use Rattle.clock.proofs.with_sign.Goals as goal

pub overflow_sub-result : goal.overflow_sub-result
overflow_sub-result c = rw c.from-n.ensures (minus-fits _ c.ranges.m.fits)

pub returns-then-sign-eq45 : goal.returns-then-sign-eq45
unfolding signed
returns-then-sign-eq45 c = rw c.from-n.ensures (minus_is _ c.ranges.m.fits ∙ rw (eq-eqb _ _ c.if-sign-eq45.true))

pub returns-else-sign-eq45 : goal.returns-else-sign-eq45
unfolding signed
returns-else-sign-eq45 c =
    let h : c.args.m < 2 ^ 63 = omega (arith, c.ranges.m.fits) in rw c.from-n.ensures (unsigned _ h ∙ rw (ne_eqb _ _ c.if-sign-eq45.false))
