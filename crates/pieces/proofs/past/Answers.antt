use Rattle.std.proofs.Common.{◌≡◌, sym, ◌∙◌, ap, true, false, ◌<◌, arith, length}
use Rattle.octets.specs.Bytes.{byte_at}
use Rattle.octets.proofs.Scans.{starts, moves, stops}
use Rattle.pieces.proofs.Inside.{taken-in}
use Rattle.pieces.proofs.past.Goals as goal

-- a byte that the test takes is one
inside : (g : _) (c : goal.In-loop-i g) → c.loop-i.i < length c.args.s.now
inside g c = taken-in (λ b. goal.F-post g c.args.test b true) c.args.s.now c.loop-i.i c.byte.result c.requires.not_past_end c.byte.ensures c.loop-i-test.ensures

pub loop-i-init : goal.loop-i-init
loop-i-init g c = λ p h. starts (λ j. p (byte_at c.args.s.now j)) _ _

pub overflow_add-i : goal.overflow_add-i
overflow_add-i g c = let l = inside g c in omega arith

pub loop-i-smaller : goal.loop-i-smaller
loop-i-smaller g c = let l = inside g c in omega arith

pub loop-i-preserved : goal.loop-i-preserved
loop-i-preserved g c = λ p h.
    let s = c.args.s.now in
    let e : p (byte_at s c.loop-i.i) ≡ true = ap p (sym c.byte.ensures) ∙ sym (h _ _ c.loop-i-test.ensures) in
    moves (λ j. p (byte_at s j)) _ _ c.loop-i.i e (inside g c) (c.loop-i.invariant p h)

pub returns : goal.returns
returns g c = λ p h.
    let s = c.args.s.now in
    let e : p (byte_at s c.loop-i.i) ≡ false = ap p (sym c.byte.ensures) ∙ sym (h _ _ c.loop-i-test.ensures) in
    stops (λ j. p (byte_at s j)) _ _ c.loop-i.i e (c.loop-i.invariant p h)
