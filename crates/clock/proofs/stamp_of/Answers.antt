-- The day and the second of the day, each in its parts.
use Rattle.clock.specs.Stamp.{stamp_of, year_day_of}
use Rattle.clock.proofs.stamp_of.Goals as goal

pub returns : goal.returns
unfolding stamp_of year_day_of
returns c = rw c.year_day-on.ensures
