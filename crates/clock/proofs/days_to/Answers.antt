-- The closed form: of the years before a year, its multiples of 4 and of 400 less those of 100 are leap years.
use Prim.Native.Nat.{ℕ}
use mathlib.Core.Path.{◌≡◌}
use native.Mathlib.Omega.{arith}
use Rattle.clock.specs.Period.{up}
use Rattle.clock.proofs.Calendar.{days-to-is}
use Rattle.std.specs.Int.{div_ceil}
use Rattle.clock.proofs.days_to.Goals as goal

fours : (y : ℕ) → div_ceil y 4 ≡ up y 4
unfolding up
fours y = omega arith

hundreds : (y : ℕ) → div_ceil y 100 ≡ up y 100
unfolding up
hundreds y = omega arith

four-hundreds : (y : ℕ) → div_ceil y 400 ≡ up y 400
unfolding up
four-hundreds y = omega arith

pub returns : goal.returns
returns c =
    let y = c.args.year in
    rw (c.div_ceil.ensures, c.div_ceil-2.ensures, c.div_ceil-3.ensures, fours y, hundreds y, four-hundreds y) (omega (arith, days-to-is y))
