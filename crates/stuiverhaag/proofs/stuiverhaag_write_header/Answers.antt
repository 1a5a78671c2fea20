-- The answer of header::write_asked is packed; its length fits the bits that it has.
use mathlib.Core.Path.{ap}
use native.Mathlib.Omega.{arith}
use Rattle.stuiverhaag.proofs.Packing.{write-narrow}
use Rattle.stuiverhaag.specs.Packed.{packed_written}
use Rattle.stuiverhaag.proofs.stuiverhaag_write_header.Goals as goal

pub overflow_mul-result : goal.overflow_mul-result
overflow_mul-result c = omega (arith, write-narrow _ _ c.write_asked-w.result c.write_asked-w.ensures.value)

pub overflow_add-result : goal.overflow_add-result
overflow_add-result c = omega (arith, write-narrow _ _ c.write_asked-w.result c.write_asked-w.ensures.value)

pub returns : goal.returns
unfolding packed_written
returns c = record { value = rw c.from.ensures (ap packed_written c.write_asked-w.ensures.value); out_after = c.write_asked-w.ensures.out_after }
