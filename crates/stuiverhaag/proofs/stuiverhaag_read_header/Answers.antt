-- The answer of header::read_header is packed where its parts are taken, and else it is its number.
use mathlib.Core.Path.{ap, ◌∙◌}
use Rattle.stuiverhaag.proofs.Packing.{read-narrow, read_taken, read-refused}
use Rattle.stuiverhaag.specs.Packed.{packed_read}
use Rattle.stuiverhaag.proofs.stuiverhaag_read_header.Goals as goal

pub returns-then-r-ne0 : goal.returns-then-r-ne0
returns-then-r-ne0 c = c.from.ensures ∙ read-refused c.read_header-r.result c.if-r-ne0.true ∙ ap packed_read c.read_header-r.ensures

pub pack_body-requires : goal.pack_body-requires
pack_body-requires c = read-narrow _ c.read_header-r.result c.read_header-r.ensures

pub returns : goal.returns
returns c =
    c.pack_body.ensures ∙ read_taken c.read_header-r.result c.if-r-ne0.false ∙ ap packed_read c.read_header-r.ensures
