-- The answer of convert::header is packed; each of its parts fits the bits that it has.
use mathlib.Core.Path.{ap, ◌∙◌}
use Rattle.stuiverhaag.proofs.Packing.{header-narrow}
use Rattle.stuiverhaag.specs.Packed.{packed_headed}
use Rattle.stuiverhaag.proofs.stuiverhaag_header.Goals as goal

pub pack_headed-requires : goal.pack_headed-requires
pack_headed-requires c = header-narrow _ _ _ c.header.result c.header.ensures.value

pub returns : goal.returns
returns c = record { value = c.pack_headed.ensures ∙ ap packed_headed c.header.ensures.value; header_after = c.header.ensures.out_after }
