-- The days of a month are those from it to the next.
use Prim.Native.Nat.{◌+◌}
use mathlib.Core.Path.{◌≡◌}
use native.Mathlib.Omega.{arith}
use Rattle.clock.specs.Calendar.{month_days}
use Rattle.clock.proofs.Calendar.{month-is}
use Rattle.clock.proofs.month_days.Goals as goal

-- this month and the next
next : (c : goal.After-days_before-2) → let a = c.args in c.days_before.result ≡ c.days_before-2.result + month_days a.leap a.month
next c =
    let a = c.args in
    rw (c.days_before.ensures, c.days_before-2.ensures) (month-is a.leap a.month c.requires.le_month c.requires.month_bound)

pub overflow_sub-result : goal.overflow_sub-result
overflow_sub-result c = omega (arith, next c)

pub returns : goal.returns
returns c = omega (arith, next c)
