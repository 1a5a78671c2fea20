use Rattle.std.proofs.Common.{rules, ◌≡◌}
use Rattle.pieces.specs.declared.Step.TheVariants.{Go}
use Rattle.pieces.proofs.Walks.{step-forward}
use Rattle.tags.specs.Attributes.{bit_at}
use Rattle.tags.proofs.Goes.{bit-goes}
use Rattle.tags.proofs.quoted.Goals as goal

pub walk-requires-clause-forward : goal.walk-requires-clause-forward
walk-requires-clause-forward c = λ i j p.
    let s = c.args.s.now in
    let e : Go j ≡ bit_at s c.args.q i = search rules in
    step-forward s i j (bit_at s c.args.q i) e (bit-goes s c.args.q c.requires i)
