use Rattle.std.proofs.Common.{rules, ◌≡◌, ◌++◌}
use Rattle.pieces.specs.declared.Step.TheVariants.{Go}
use Rattle.pieces.proofs.Walks.{step-forward}
use Rattle.tags.specs.Attributes.{seek_at, attr_named}
use Rattle.tags.proofs.Goes.{seek-goes}
use Rattle.tags.proofs.find.Goals as goal

pub walk-requires-clause-forward : goal.walk-requires-clause-forward
walk-requires-clause-forward c = λ i j p.
    let s = c.args.s.now in
    let w = c.args.lead.now ++ c.args.rest.now in
    let e : Go j ≡ seek_at s w c.args.stop i = search rules in
    step-forward s i j (seek_at s w c.args.stop i) e (seek-goes s w c.args.stop i)

pub returns : goal.returns
unfolding attr_named
returns c = search rules
