-- The answer of convert::text is packed; each of its parts fits the bits that it has.
use mathlib.Core.Path.{ap, ◌∙◌}
use Rattle.stuiverhaag.proofs.Packing.{text-narrow}
use Rattle.stuiverhaag.specs.Packed.{packed_text}
use Rattle.stuiverhaag.proofs.stuiverhaag_text.Goals as goal

pub pack_text-requires : goal.pack_text-requires
pack_text-requires c = text-narrow _ _ _ _ c.text.result c.text.ensures.value

pub returns : goal.returns
returns c = record {
  value = c.pack_text.ensures ∙ ap packed_text c.text.ensures.value;
  text_after = c.text.ensures.text_after;
  uri_after = c.text.ensures.uri_after;
}
