-- Each step fits its bits, so the bits are the signed number.
use Rattle.clock.specs.Time.{utc}
use Rattle.clock.proofs.Signed.{sixty-fits, less-fits, less-reads}
use Rattle.clock.proofs.to_utc.Goals as goal

pub overflow_mul-result : goal.overflow_mul-result
overflow_mul-result c = sixty-fits c.args.local c.args.minutes c.ranges.local c.ranges.minutes c.requires.local_bound c.requires.minutes_bound

pub overflow_sub-result : goal.overflow_sub-result
overflow_sub-result c = less-fits c.args.local c.args.minutes c.ranges.local c.ranges.minutes c.requires.local_bound c.requires.minutes_bound

pub returns : goal.returns
unfolding utc
returns c = less-reads c.args.local c.args.minutes c.ranges.local c.ranges.minutes c.requires.local_bound c.requires.minutes_bound
