use Rattle.std.proofs.Common.{◌≡◌, sym, ◌∙◌, ap, Bool, true, ◌+◌, ◌≤◌, arith, length}
use Rattle.octets.specs.Bytes.{pick}
use Rattle.octets.proofs.Scans.{by-starts, by-moves, by-stops}
use Rattle.pieces.proofs.Inside.{stays, goes}
use Rattle.pieces.proofs.through.Goals as goal

pub loop-width-init : goal.loop-width-init
loop-width-init g c = λ w p h. by-starts w p _ _

pub returns-then-n-eq0 : goal.returns-then-n-eq0
returns-then-n-eq0 g c = λ w p h.
    let i = c.loop-width.i in
    let e = h.each i c.width-n.result c.width-n.ensures in
    by-stops w p _ _ i (stays (p i) (w i) (h.some i) (sym e ∙ c.if-n-eq0.true)) (c.loop-width.invariant w p h)

pub overflow_add-i : goal.overflow_add-i
overflow_add-i g c = let l = c.requires.inside c.loop-width.i c.width-n.result c.width-n.ensures (omega arith) in omega (arith, l)

pub loop-width-smaller : goal.loop-width-smaller
loop-width-smaller g c = let l = c.requires.inside c.loop-width.i c.width-n.result c.width-n.ensures (omega arith) in omega (arith, l)

pub loop-width-preserved : goal.loop-width-preserved
loop-width-preserved g c = λ w p h.
    let i = c.loop-width.i in
    let n = c.width-n.result in
    let s = c.args.s.now in
    let l : i + n ≤ length s = c.requires.inside i n c.width-n.ensures (omega arith) in
    let e = h.each i n c.width-n.ensures in
    let t : p i ≡ true = goes (p i) (w i) (λ y. c.if-n-eq0.false (e ∙ y)) in
    let q : n ≡ w i = e ∙ ap (λ (b : Bool). pick b (w i) 0) t in
    rw q (by-moves w p (length s) c.args.at i t (omega arith) (h.some i t) (c.loop-width.invariant w p h))
