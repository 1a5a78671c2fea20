-- The answer of canadian::convert is packed; each of its parts fits the bits that it has.
use mathlib.Core.Path.{ap, ◌∙◌}
use Rattle.stuiverhaag.proofs.Packing.{canadian-narrow}
use Rattle.stuiverhaag.specs.Packed.{packed_text}
use Rattle.stuiverhaag.proofs.stuiverhaag_canadian.Goals as goal

pub pack_text-requires : goal.pack_text-requires
pack_text-requires c = canadian-narrow _ _ _ c.convert.result c.convert.ensures.value

pub returns : goal.returns
returns c = record {
  value = c.pack_text.ensures ∙ ap packed_text c.convert.ensures.value;
  text_after = c.convert.ensures.text_after;
  uri_after = c.convert.ensures.uri_after;
}
