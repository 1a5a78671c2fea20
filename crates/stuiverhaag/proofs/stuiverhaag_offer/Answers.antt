-- The answer is packed; its parts fit the bits that they have.
use mathlib.Core.Path.{ap}
use Rattle.stuiverhaag.specs.Packed.{packed_offered}
use Rattle.stuiverhaag.proofs.stuiverhaag_offer.Goals as goal

pub returns : goal.returns
returns c = record { value = rw (c.from.ensures, c.from-2.ensures) (ap packed_offered c.offer-o.ensures.value); s_after = c.offer-o.ensures.s_after }
