-- Four years from 2000 on are 1461 days, of which the first has 366.
use mathlib.Core.Path.{refl}
use native.Mathlib.Omega.{arith}
use Rattle.clock.proofs.Stamps.{year-day-is, early, late}
use Rattle.clock.proofs.year_day.Goals as goal

pub returns-then-rest-lt366 : goal.returns-then-rest-lt366
returns-then-rest-lt366 c = year-day-is _ _ _ _ _ (early _ c.requires c.if-rest-lt366.true) refl refl

pub returns : goal.returns
returns c = year-day-is _ _ _ _ _ (late _ c.requires c.if-rest-lt366.false) (omega arith) refl
