use Rattle.std.proofs.Common.{rules, ◌≡◌, sym, ◌∙◌}
use Rattle.pieces.specs.Walk.{walk_at}
use Rattle.pieces.specs.declared.Step.TheVariants.{Go}
use Rattle.pieces.proofs.Walks.{step-forward, walk-starts, walk-moves, walk-stops, walk-stuck, walk-rest}
use Rattle.tags.specs.Tags.{take_at}
use Rattle.tags.proofs.Goes.{take-goes}
use Rattle.tags.proofs.attributes.Goals as goal

pub loop-init : goal.loop-init
loop-init c = walk-starts (take_at c.args.s.now c.args.at) c.args.s.now c.args.at

pub returns-in-Stop : goal.returns-in-Stop
returns-in-Stop c = walk-stops (take_at c.args.s.now c.args.at) c.args.s.now c.args.at c.loop.i c.loop.invariant c.in-Stop.k (sym c.take.ensures ∙ c.in-Stop.is)

pub returns-in-Stuck : goal.returns-in-Stuck
returns-in-Stuck c = walk-stuck (take_at c.args.s.now c.args.at) c.args.s.now c.args.at c.loop.i c.loop.invariant (sym c.take.ensures ∙ c.in-Stuck.is)

pub loop-preserved : goal.loop-preserved
loop-preserved c =
    let s = c.args.s.now in
    let f = take_at s c.args.at in
    let e : f c.loop.i ≡ Go c.in-Go.k = sym c.take.ensures ∙ c.in-Go.is in
    let g = step-forward s c.loop.i c.in-Go.k (f c.loop.i) (sym e) (take-goes s c.args.at c.loop.i) in
    walk-moves f s c.args.at c.loop.i c.loop.invariant c.in-Go.k e g.0 g.1

pub walk-requires-clause-forward : goal.walk-requires-clause-forward
walk-requires-clause-forward c = λ i j p.
    let s = c.args.s.now in
    let a = c.args.at in
    let e : Go j ≡ take_at s a i = search rules in
    step-forward s i j (take_at s a i) e (take-goes s a i)

pub returns-else-s-lt65536 : goal.returns-else-s-lt65536
returns-else-s-lt65536 c =
    let s = c.args.s.now in
    let f = take_at s c.args.at in
    let e : c.walk.result ≡ walk_at f s c.loop.i = search rules in
    e ∙ walk-rest f s (take-goes s c.args.at) c.args.at c.loop.i c.loop.invariant
