use Prim.Native.Nat.{ℕ}
use mathlib.Core.Path.{◌≡◌, sym, ◌∙◌}
use native.Mathlib.Omega.{arith}
use borrow.Author.Rules.{rules}
use Rattle.pieces.proofs.Walks.{walk-stops, walk-stuck}
use Rattle.tags.specs.Attributes.{attr_at}
use Rattle.tags.specs.Tags.{taken, take_at}
use Rattle.tags.specs.declared.Attr.TheVariants.{Of, Last, Bad}
use Rattle.tags.proofs.Goes.{Read, attr-read}
use Rattle.tags.proofs.Trees.{tree-full}
use Rattle.tags.proofs.Keeps.{kept-starts, kept-moves, met, rest-taken, rest-refused}
use Rattle.tags.proofs.+many.Goals as goal

-- the attribute that was read, and that it stays inside
read : (t : ℕ) (c : goal.After-names-1 t) → attr_at c.args.s.now c.loop-n.i ≡ Of c.in-Of.name c.in-Of.name_end c.in-Of.value c.in-Of.end
read t c = sym c.attribute.ensures ∙ c.in-Of.is

inside : (t : ℕ) (c : goal.After-names-1 t) → Read c.args.s.now c.loop-n.i c.in-Of.name c.in-Of.name_end c.in-Of.end
inside t c = attr-read c.args.s.now c.loop-n.i c.in-Of.name c.in-Of.name_end c.in-Of.value c.in-Of.end (read t c)

pub loop-n-init : goal.loop-n-init
loop-n-init t c = kept-starts c.args.s.now c.args.at c.requires.at_in_bounds

pub add-requires : goal.add-requires
add-requires t c = let g = inside t c in record { j_le_e = omega arith; e_in_bounds = omega arith; s_len_bound = search rules; n_lt_nodes = search rules; name_tree = c.loop-n.invariant.tree }

pub returns-then-not-add : goal.returns-then-not-add
returns-then-not-add t c =
    let s = c.args.s.now in
    let at = c.args.at in
    let r = c.loop-n in
    walk-stuck (take_at s at) s at r.i r.invariant.walking
    (met s r.names at r.i r.n r.invariant r.i c.in-Of.name c.in-Of.name_end c.in-Of.value c.in-Of.end (omega arith) (sym c.attribute.ensures ∙ c.in-Of.is) (rw c.if-not-add.true at c.add.ensures))

pub returns-in-Last : goal.returns-in-Last
unfolding take_at taken
returns-in-Last t c =
    let s = c.args.s.now in
    let at = c.args.at in
    let r = c.loop-n in
    let o : attr_at s r.i ≡ Last c.in-Last.k = sym c.attribute.ensures ∙ c.in-Last.is in
    walk-stops (take_at s at) s at r.i r.invariant.walking c.in-Last.k (rw o)

pub returns-in-Bad : goal.returns-in-Bad
unfolding take_at taken
returns-in-Bad t c =
    let s = c.args.s.now in
    let at = c.args.at in
    let r = c.loop-n in
    let o : attr_at s r.i ≡ Bad = sym c.attribute.ensures ∙ c.in-Bad.is in
    walk-stuck (take_at s at) s at r.i r.invariant.walking (rw o)

pub loop-n-preserved : goal.loop-n-preserved
loop-n-preserved t c =
    let s = c.args.s.now in
    let at = c.args.at in
    let r = c.loop-n in
    let new = rw c.if-not-add.false at c.add.ensures in
    kept-moves s r.names at r.i r.n r.invariant c.in-Of.name c.in-Of.name_end c.in-Of.value c.in-Of.end (sym c.attribute.ensures ∙ c.in-Of.is) c.add.new.t (omega arith) new

pub many-requires : goal.many-requires
many-requires t c =
    let l = c.loop-n.invariant.far in
    let w = c.loop-n.invariant.within in
    (omega arith, (w, search rules))

pub apart-requires : goal.apart-requires
apart-requires t c =
    let s = c.args.s.now in
    let r = c.loop-n in
    tree-full s r.names r.n r.invariant.tree

pub returns : goal.returns
returns t c =
    let s = c.args.s.now in
    let r = c.loop-n in
    c.apart.ensures ∙ rest-taken s r.names c.args.at r.i r.n r.invariant c.in_ok-many.field-0 (sym c.many.ensures ∙ c.in_ok-many.was)

pub returns-in_err-many : goal.returns-in_err-many
returns-in_err-many t c =
    let s = c.args.s.now in
    let r = c.loop-n in
    c.from_residual.ensures ∙ rest-refused s r.names c.args.at r.i r.n r.invariant (sym c.many.ensures ∙ c.in_err-many.was)
