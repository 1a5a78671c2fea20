use mathlib.Core.Path.{◌∙◌}
use Rattle.octets.proofs.Orders.{cmp-slices}
use Rattle.octets.proofs.compare.Goals as goal

pub returns : goal.returns
returns c = c.cmp.ensures ∙ cmp-slices c.args.a.now c.args.b.now
