use Rattle.std.proofs.Common.{rules, ◌≡◌}
use Rattle.pieces.specs.declared.Step.TheVariants.{Go}
use Rattle.pieces.proofs.Walks.{step-forward}
use Rattle.tags.specs.WorkingTree.{look_at}
use Rattle.tags.proofs.Goes.{look-goes}
use Rattle.tags.proofs.apart.Goals as goal

pub walk-requires-clause-forward : goal.walk-requires-clause-forward
walk-requires-clause-forward c = λ i j p.
    let s = c.args.s.now in
    let t = c.args.t.now in
    let e : Go j ≡ look_at s t i = search rules in
    step-forward s i j (look_at s t i) e (look-goes s t i)
