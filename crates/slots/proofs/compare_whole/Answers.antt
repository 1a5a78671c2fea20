-- With the header that the record carries.
use mathlib.Core.Path.{ap, ◌∙◌}
use Rattle.octets.specs.Order.{cmp}
use Rattle.slots.proofs.compare_whole.Goals as goal

pub returns : goal.returns
returns c = c.compare.ensures ∙ ap (cmp c.args.h.now) c.header_at.ensures
