-- The next attribute's answer decides; its name is a part of the message, since an attribute stays inside.
use mathlib.Core.Path.{◌≡◌, sym, ◌∙◌}
use mathlib.Core.Logic.{⊎_elim}
use native.Mathlib.Omega.{arith}
use borrow.Author.Tests.{le-leb, lt-leb}
use Rattle.tags.specs.Attributes.{attr_at, sought, seek_at}
use Rattle.tags.specs.declared.Attr.TheVariants.{Of, Last, Bad}
use Rattle.tags.proofs.Goes.{attr-goes, AttrGoes}
use Rattle.tags.proofs.seek.Goals as goal

-- the attribute that was read, and that it stays inside
read : (c : goal.Then-stop-name) → attr_at c.args.s.now c.args.i ≡ Of c.in-Of.name c.in-Of.name_end c.in-Of.value c.in-Of.end
read c = sym c.attribute.ensures ∙ c.in-Of.is

goes : (c : goal.Else-stop-name) → AttrGoes c.args.s.now c.args.i (Of c.in-Of.name c.in-Of.name_end c.in-Of.value c.in-Of.end)
goes c = rw (sym c.attribute.ensures ∙ c.in-Of.is) at (attr-goes c.args.s.now c.args.i)

pub returns-then-stop-name : goal.returns-then-stop-name
unfolding seek_at sought
returns-then-stop-name c = rw (read c, le-leb _ _ c.if-stop-name.true)

pub slice_bounds-is_joined-count : goal.slice_bounds-is_joined-count
slice_bounds-is_joined-count c =
    let g = goes c in
    let x = g.1 in
    let y = g.2 in
    let z = g.3 in
    let u = g.4 in
    omega arith

pub slice_bounds-is_joined-start : goal.slice_bounds-is_joined-start
slice_bounds-is_joined-start c =
    let g = goes c in
    let x = g.1 in
    let y = g.2 in
    let z = g.3 in
    let u = g.4 in
    omega arith

pub slice_bounds-is_joined-end : goal.slice_bounds-is_joined-end
slice_bounds-is_joined-end c =
    let g = goes c in
    let x = g.1 in
    let y = g.2 in
    let z = g.3 in
    let u = g.4 in
    omega arith

pub returns-then-is_joined : goal.returns-then-is_joined
unfolding seek_at sought
returns-then-is_joined c = rw (sym c.attribute.ensures ∙ c.in-Of.is, lt-leb _ _ c.if-stop-name.false, sym c.is_joined.ensures ∙ c.if-is_joined.true)

pub returns-else-is_joined : goal.returns-else-is_joined
unfolding seek_at sought
returns-else-is_joined c = rw (sym c.attribute.ensures ∙ c.in-Of.is, lt-leb _ _ c.if-stop-name.false, sym c.is_joined.ensures ∙ c.if-is_joined.false)

pub returns-in-Last : goal.returns-in-Last
unfolding seek_at sought
returns-in-Last c =
    let s = c.args.s.now in
    let i = c.args.i in
    ⊎_elim
    (λ x. let a : attr_at s i ≡ Last x.0 = sym c.attribute.ensures ∙ x.1 in rw a)
    (λ x. let a : attr_at s i ≡ Bad = sym c.attribute.ensures ∙ x in rw a)
    c.in-Last.is
