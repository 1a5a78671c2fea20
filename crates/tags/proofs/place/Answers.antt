use Prim.Native.Nat.{ℕ, ◌+◌, ◌-◌, ◌*◌}
use mathlib.Core.Path.{◌≡◌, sym, ap, ◌∙◌}
use mathlib.Core.Bool.{Bool}
use mathlib.Core.List.{List}
use native.Mathlib.Omega.{arith}
use lib.ListN.{get_or}
use Rattle.octets.specs.Bytes.{part, same}
use Rattle.std.specs.Prelude.{Some}
use Rattle.tags.specs.WorkingTree.{nodes, bit_of, cell_of, node_name}
use Rattle.tags.proofs.Trees.{turn_small, way-starts, way-met, way-ends, way-moves}
use Rattle.tags.proofs.place.Goals as goal

-- whether w is the name of node k, which stands between what its cells hold
met : (s t w : List ℕ) (k : ℕ) {from to : ℕ} {r : Bool} → r ≡ same (part s from (to - from)) w → from ≡ get_or t (4 * k) 0 → to ≡ get_or t (4 * k + 1) 0 → same (node_name s t k) w ≡ r
unfolding node_name
met s t w k e f g = sym (e ∙ rw (f, g))

-- the node in the cell by which the way goes on
next : (t w : List ℕ) (d k : ℕ) {r b : ℕ} → r ≡ get_or t (4 * k + 2 + b) 0 → b ≡ bit_of w d → r ≡ get_or t (cell_of w d k) 0
next t w d k e f = e ∙ ap (λ (b : ℕ). get_or t (4 * k + 2 + b) 0) f

pub loop-k-init : goal.loop-k-init
loop-k-init c = way-starts c.args.s.now c.args.t.now c.args.w.now nodes c.requires

pub returns-then-equal : goal.returns-then-equal
returns-then-equal c =
    let s = c.args.s.now in
    let t = c.args.t.now in
    let w = c.args.w.now in
    way-met s t w nodes c.requires c.loop-k.d c.loop-k.k c.loop-k.invariant (met s t w c.loop-k.k c.equal.ensures c.cell-from.ensures c.cell-to.ensures ∙ c.if-equal.true)

pub overflow_add-x-in-loop-k : goal.overflow_add-x-in-loop-k
overflow_add-x-in-loop-k c = omega (arith, c.turn.ensures, turn_small c.args.w.now c.loop-k.d)

pub cell-next-requires : goal.cell-next-requires
cell-next-requires c = omega (arith, c.turn.ensures, turn_small c.args.w.now c.loop-k.d)

pub returns-then-next-eq0 : goal.returns-then-next-eq0
returns-then-next-eq0 c =
    let s = c.args.s.now in
    let t = c.args.t.now in
    let w = c.args.w.now in
    let k = c.loop-k.k in
    let d = c.loop-k.d in
    ap (λ (b : ℕ). Some (4 * k + 2 + b)) c.turn.ensures ∙ way-ends s t w nodes c.requires d k c.loop-k.invariant (met s t w k c.equal.ensures c.cell-from.ensures c.cell-to.ensures ∙ c.if-equal.false) (sym (next t w d k c.cell-next.ensures c.turn.ensures) ∙ c.if-next-eq0.true)

pub loop-k-smaller : goal.loop-k-smaller
loop-k-smaller c =
    let t = c.args.t.now in
    let w = c.args.w.now in
    let k = c.loop-k.k in
    let d = c.loop-k.d in
    let x : c.cell-next.result ≡ get_or t (cell_of w d k) 0 = next t w d k c.cell-next.ensures c.turn.ensures in
    let y = c.requires.onto k (bit_of w d) (turn_small w d) in
    let z = c.requires.rises k (bit_of w d) (turn_small w d) (omega arith) in
    omega arith

pub loop-k-preserved : goal.loop-k-preserved
loop-k-preserved c =
    let s = c.args.s.now in
    let t = c.args.t.now in
    let w = c.args.w.now in
    let k = c.loop-k.k in
    let d = c.loop-k.d in
    let x : c.cell-next.result ≡ get_or t (cell_of w d k) 0 = next t w d k c.cell-next.ensures c.turn.ensures in
    rw x (way-moves s t w nodes c.requires d k c.loop-k.invariant (met s t w k c.equal.ensures c.cell-from.ensures c.cell-to.ensures ∙ c.if-equal.false) (omega arith))
