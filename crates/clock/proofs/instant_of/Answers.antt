-- The days before the year and those of it, less the days before 2000.
use native.Mathlib.Omega.{arith}
use Rattle.clock.specs.Stamp.{instant_of}
use Rattle.clock.proofs.Calendar.{days-to-2000, days-to-low, days-to-high}
use Rattle.clock.proofs.instant_of.Goals as goal

pub overflow_add-result : goal.overflow_add-result
overflow_add-result c = omega (arith, c.days_to.ensures, days-to-high c.args.year c.requires.1)

pub overflow_sub-result-2 : goal.overflow_sub-result-2
overflow_sub-result-2 c = omega (arith, c.days_to-2.ensures, c.days_to.ensures, days-to-2000, days-to-low c.args.year c.requires.0)

pub overflow_mul-result : goal.overflow_mul-result
overflow_mul-result c = omega (arith, c.days_to-2.ensures, c.days_to.ensures, days-to-2000, days-to-high c.args.year c.requires.1)

pub overflow_add-result-2 : goal.overflow_add-result-2
overflow_add-result-2 c = omega (arith, c.days_to-2.ensures, c.days_to.ensures, days-to-2000, days-to-high c.args.year c.requires.1)

pub returns : goal.returns
unfolding instant_of
returns c = (
  rw (c.days_to-2.ensures, c.days_to.ensures),
  omega (arith, c.days_to-2.ensures, c.days_to.ensures, days-to-2000, days-to-high c.args.year c.requires.1),
)
