-- Each step fits its bits, so the bits are the signed number.
use Rattle.clock.specs.Time.{since2000}
use Rattle.clock.proofs.Calendar.{days-to-2000}
use Rattle.clock.proofs.Signed.{days-fit, sum_fits, since-fits, since-reads}
use Rattle.clock.proofs.since_2000.Goals as goal

pub overflow_mul-result : goal.overflow_mul-result
overflow_mul-result c = rw c.from.ensures (days-fit c.args.days c.args.second c.requires.days_bound c.requires.second_bound)

pub overflow_add-result : goal.overflow_add-result
overflow_add-result c = rw (c.from.ensures, c.from-2.ensures) (sum_fits c.args.days c.args.second c.requires.days_bound c.requires.second_bound)

pub overflow_sub-result : goal.overflow_sub-result
overflow_sub-result c = rw (c.from.ensures, c.from-2.ensures) (since-fits c.args.days c.args.second c.requires.days_bound c.requires.second_bound)

pub returns : goal.returns
unfolding since2000
returns c = rw (c.from.ensures, c.from-2.ensures, days-to-2000) (since-reads c.args.days c.args.second c.requires.days_bound c.requires.second_bound)
