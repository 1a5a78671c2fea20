-- Six runs, one behind the other.
use Prim.Native.Nat.{ℕ}
use native.Mathlib.Omega.{arith}
use lib.ListN.{length-append}
use Rattle.octets.proofs.Numbers.{length_digits}
use Rattle.octets.specs.Text.{bytes}
use Rattle.sentence.proofs.Writers.{then, named, when-is}
use Rattle.sentence.proofs.Writer.put_when.Goals as goal

pub put_numbered-requires-2 : goal.put_numbered-requires-2
put_numbered-requires-2 c = omega (arith, length-append {A = ℕ}, length_digits)

pub put_numbered-requires-3 : goal.put_numbered-requires-3
put_numbered-requires-3 c = omega (arith, length-append {A = ℕ}, length_digits)

pub put_numbered-requires-4 : goal.put_numbered-requires-4
put_numbered-requires-4 c = omega (arith, length-append {A = ℕ}, length_digits)

pub put_numbered-requires-5 : goal.put_numbered-requires-5
put_numbered-requires-5 c = omega (arith, length-append {A = ℕ}, length_digits)

pub put-requires : goal.put-requires
put-requires c = omega (arith, length-append {A = ℕ}, length_digits)

pub returns : goal.returns
unfolding bytes
returns c =
    named (then (then (then (then (then c.put_numbered.ensures c.put_numbered-2.ensures) c.put_numbered-3.ensures) c.put_numbered-4.ensures) c.put_numbered-5.ensures) c.put.ensures)
    _ (when-is c.args.b.now.period c.args.b.now.day c.args.b.now.hour c.args.b.now.minute)
