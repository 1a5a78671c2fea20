use Rattle.std.proofs.Common.{sym, ◌∙◌, arith}
use Rattle.pieces.proofs.Walks.{walk-starts, walk-moves, walk-stops, walk-stuck}
use Rattle.pieces.proofs.walk.Goals as goal

pub loop-j-init : goal.loop-j-init
loop-j-init g c = λ f h. walk-starts f c.args.s.now c.args.at

pub loop-j-smaller : goal.loop-j-smaller
loop-j-smaller g c =
    let k = c.requires.forward c.loop-j.i c.in-Go.j c.in-Go.ensures in
    omega (arith, k.0, k.1)

pub loop-j-preserved : goal.loop-j-preserved
loop-j-preserved g c = λ f h.
    let k = c.requires.forward c.loop-j.i c.in-Go.j c.in-Go.ensures in
    walk-moves f _ _ _ (c.loop-j.invariant f h) c.in-Go.j (sym (h _ _ c.step.ensures) ∙ c.in-Go.is) k.0 k.1

pub returns-in-Stop : goal.returns-in-Stop
returns-in-Stop g c = λ f h. walk-stops f _ _ _ (c.loop-j.invariant f h) c.in-Stop.j (sym (h _ _ c.step.ensures) ∙ c.in-Stop.is)

pub returns-in-Stuck : goal.returns-in-Stuck
returns-in-Stuck g c = λ f h. walk-stuck f _ _ _ (c.loop-j.invariant f h) (sym (h _ _ c.step.ensures) ∙ c.in-Stuck.is)
