-- Two runs of digits, one behind the other.
use Prim.Native.Nat.{ℕ, ◌+◌, ◌/◌, ◌%◌}
use mathlib.Core.Path.{sym, ap}
use Rattle.octets.specs.Digits.{digits}
use Rattle.octets.proofs.Numbers.{length_digits}
use Rattle.octets.proofs.Runs.{behind}
use Rattle.clock.specs.Written.{tttt}
use Rattle.clock.proofs.put_tttt.Goals as goal

pub returns : goal.returns
unfolding tttt
returns c =
    let a = c.args in
    behind a.out.now a.at (digits 2 (a.minutes / 60)) (digits 2 (a.minutes % 60))
    c.put_number.ensures (ap (λ (n : ℕ). a.at + n) (sym (length_digits 2 (a.minutes / 60)))) c.put_number-2.ensures
