-- By how many bytes the character has.
use mathlib.Core.Path.{ap}
use native.Mathlib.Omega.{arith}
use lib.ListN.{length}
use Rattle.characters.proofs.Forms.{encoded-one, encoded-two, encoded-three, encoded-four}
use Rattle.characters.proofs.put_encoded.Goals as goal

pub put_byte-requires : goal.put_byte-requires
put_byte-requires c = omega (arith, ap length (encoded-one c.args.c c.if-c-lt128.true), c.requires.c_in_bounds)

pub put_bytes-requires : goal.put_bytes-requires
put_bytes-requires c = omega (arith, ap length (encoded-two c.args.c c.if-c-lt128.false c.if-c-lt2048.true), c.requires.c_in_bounds)

pub put_bytes-requires-then-c-lt65536 : goal.put_bytes-requires-then-c-lt65536
put_bytes-requires-then-c-lt65536 c = omega (arith, ap length (encoded-three c.args.c c.if-c-lt2048.false c.if-c-lt65536.true), c.requires.c_in_bounds)

pub put_bytes-requires-else-c-lt65536 : goal.put_bytes-requires-else-c-lt65536
put_bytes-requires-else-c-lt65536 c = omega (arith, ap length (encoded-four c.args.c c.if-c-lt65536.false), c.requires.c_in_bounds)

pub returns-then-c-lt128 : goal.returns-then-c-lt128
returns-then-c-lt128 c = rw (encoded-one c.args.c c.if-c-lt128.true) c.put_byte.ensures

pub returns-then-c-lt2048 : goal.returns-then-c-lt2048
returns-then-c-lt2048 c = rw (encoded-two c.args.c c.if-c-lt128.false c.if-c-lt2048.true, ← c.tail.ensures) c.put_bytes.ensures

pub returns-then-c-lt65536 : goal.returns-then-c-lt65536
returns-then-c-lt65536 c = rw (encoded-three c.args.c c.if-c-lt2048.false c.if-c-lt65536.true, ← c.tail-then-c-lt65536.ensures, ← c.tail-then-c-lt65536-2.ensures) c.put_bytes-then-c-lt65536.ensures

pub returns-else-c-lt65536 : goal.returns-else-c-lt65536
returns-else-c-lt65536 c = rw (encoded-four c.args.c c.if-c-lt65536.false, ← c.tail-else-c-lt65536.ensures, ← c.tail-else-c-lt65536-2.ensures, ← c.tail-else-c-lt65536-3.ensures) c.put_bytes-else-c-lt65536.ensures
