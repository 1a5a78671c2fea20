-- Three runs of digits, one behind the other.
use Prim.Native.Nat.{◌+◌}
use mathlib.Core.List.{◌++◌}
use native.Mathlib.Omega.{arith}
use Rattle.octets.specs.Digits.{digits}
use Rattle.octets.proofs.Numbers.{length_digits}
use Rattle.octets.proofs.Runs.{behind}
use Rattle.clock.specs.Written.{jjjhhmm}
use Rattle.clock.proofs.put_jjjhhmm.Goals as goal

pub returns : goal.returns
unfolding jjjhhmm
returns c =
    let a = c.args in
    let hour = digits 2 a.hour in
    let minute = digits 2 a.minute in
    let then = behind _ (a.at + 3) hour minute c.put_number-2.ensures (omega (arith, length_digits 2 a.hour)) c.put_number-3.ensures in
    behind a.out.now a.at (digits 3 a.day) (hour ++ minute) c.put_number.ensures (omega (arith, length_digits 3 a.day)) then
