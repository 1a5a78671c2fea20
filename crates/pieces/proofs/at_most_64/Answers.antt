-- The length decides.
use Rattle.std.proofs.Common.{◌≡◌, refl, ◌∙◌, ◌-◌, ℕ, Bool, true, false, Some, None, leb}
use Rattle.std.specs.Bool.{then_some}
use Rattle.octets.specs.Bytes.{pick}
use Rattle.pieces.specs.Pieces.{short}
use Rattle.pieces.proofs.at_most_64.Goals as goal

some_if : (b : Bool) (e : ℕ) → then_some b e ≡ pick b (Some e) None
some_if true e = refl
some_if false e = refl

pub returns : goal.returns
unfolding short
returns c = c.then_some.ensures ∙ some_if (leb (c.args.e - c.args.at) 64) c.args.e
