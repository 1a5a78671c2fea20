-- The answer is packed; its parts fit the bits that they have.
use mathlib.Core.Path.{ap}
use Rattle.stuiverhaag.specs.Packed.{packed_handed}
use Rattle.stuiverhaag.proofs.stuiverhaag_hand_out.Goals as goal

pub returns : goal.returns
returns c = record { value = rw c.from.ensures (ap packed_handed c.hand_out-h.ensures.value); s_after = c.hand_out-h.ensures.s_after }
