use Prim.Native.Nat.{ℕ, suc, ◌+◌, ◌-◌, ◌<◌, ◌≤◌}
use mathlib.Core.Path.{◌≡◌, sym, ◌∙◌}
use mathlib.Core.List.{List}
use native.Mathlib.Omega.{arith}
use lib.ListN.{length}
use Rattle.tags.specs.Tags.{open_at}
use Rattle.tags.specs.declared.Open.TheVariants.{Full, Empty}
use Rattle.tags.proofs.Goes.{open-goes}
use Rattle.gather.specs.WorkingVisit.{finished, got_in}
use Rattle.gather.proofs.Passes as pass
use Rattle.gather.proofs.+read_content_read_element.Goals as goal

-- a name stands inside the message
empty-named : (s : List ℕ) (i a j : ℕ) → open_at s i ≡ Empty a j → (i + 1 < a) × (a ≤ length s)
empty-named s i a j e = let g = rw e at (open-goes s i) in (g.0, omega (arith, g.1, g.2))

full-named : (s : List ℕ) (i a j : ℕ) → open_at s i ≡ Full a j → (i + 1 < a) × (a ≤ length s)
full-named s i a j e = let g = rw e at (open-goes s i) in (g.0, omega (arith, g.1, g.2))

-- ---- `read_content`: behind the piece that is looked at, and behind a child

pub read_content-loop-j-init : goal.read_content-loop-j-init
read_content-loop-j-init t c = pass.passing-starts _ _ _ _ _ _

pub read_content-returns-in-Bad : goal.read_content-returns-in-Bad
read_content-returns-in-Bad t c = pass.passing-bad _ _ _ _ _ _ _ _ (sym c.next_piece.ensures ∙ c.in-Bad.is) c.loop-j.invariant

pub read_content-returns-in-Close : goal.read_content-returns-in-Close
read_content-returns-in-Close t c = pass.passing-close _ _ _ _ _ _ _ _ (sym c.next_piece.ensures ∙ c.in-Close.is) c.loop-j.invariant

pub read_content-returns-in_err-i-in-Child : goal.read_content-returns-in_err-i-in-Child
read_content-returns-in_err-i-in-Child t c =
    rw c.from_residual.ensures (pass.passing-none _ _ _ _ _ _ _ _ (got_in c.read_element.result c.read_element.new.st) c.read_element.ensures (sym c.next_piece.ensures ∙ c.in-Child.is) c.in_err-i-in-Child.was c.loop-j.invariant)

pub read_content-loop-j-smaller-in-Text : goal.read_content-loop-j-smaller-in-Text
read_content-loop-j-smaller-in-Text t c =
    let g = pass.piece-on _ _ _ _ c.next_piece.ensures c.in-Text.is in
    omega (arith, g.on, g.in-it)

pub read_content-loop-j-preserved-in-Text : goal.read_content-loop-j-preserved-in-Text
read_content-loop-j-preserved-in-Text t c = pass.passing-on _ _ _ _ _ _ _ _ _ _ c.next_piece.ensures c.in-Text.is c.loop-j.invariant

pub read_content-loop-j-smaller : goal.read_content-loop-j-smaller
read_content-loop-j-smaller t c =
    let g = pass.piece-on _ _ _ _ c.next_piece.ensures c.in-Text.is in
    omega (arith, g.on, g.in-it)

pub read_content-loop-j-preserved : goal.read_content-loop-j-preserved
read_content-loop-j-preserved t c = pass.passing-on _ _ _ _ _ _ _ _ _ _ c.next_piece.ensures c.in-Text.is c.loop-j.invariant

pub read_content-loop-j-smaller-in_ok-i-in-Child : goal.read_content-loop-j-smaller-in_ok-i-in-Child
read_content-loop-j-smaller-in_ok-i-in-Child t c =
    let a = c.args in
    let g = pass.child-goes _ _ _ _ a.at a.st.now _ _ (got_in c.read_element.result c.read_element.new.st) c.read_element.ensures _ c.in_ok-i-in-Child.was in
    omega (arith, g.on, g.in-it)

pub read_content-loop-j-preserved-in_ok-i-in-Child : goal.read_content-loop-j-preserved-in_ok-i-in-Child
read_content-loop-j-preserved-in_ok-i-in-Child t c =
    pass.passing-child _ _ _ _ _ _ _ _ (got_in c.read_element.result c.read_element.new.st) c.read_element.ensures _ (sym c.next_piece.ensures ∙ c.in-Child.is) c.in_ok-i-in-Child.was c.loop-j.invariant

-- ---- `read_element`: behind its start tag, and behind what a full element holds

pub read_element-returns-then-depth-eq0 : goal.read_element-returns-then-depth-eq0
read_element-returns-then-depth-eq0 t c = pass.one-deep _ _ _ _ _ _ c.if-depth-eq0.true

pub read_element-overflow_add-at : goal.read_element-overflow_add-at
read_element-overflow_add-at t c =
    let n = empty-named _ _ _ _ (sym c.open_tag.ensures ∙ c.in-Empty.is) in
    omega (arith, n.0, n.1)

pub read_element-context_of-k-requires : goal.read_element-context_of-k-requires
read_element-context_of-k-requires t c =
    let n = empty-named _ _ _ _ (sym c.open_tag.ensures ∙ c.in-Empty.is) in
    (omega (arith, n.0), n.1)

pub read_element-overflow_add-at-in-Full : goal.read_element-overflow_add-at-in-Full
read_element-overflow_add-at-in-Full t c =
    let n = full-named _ _ _ _ (sym c.open_tag.ensures ∙ c.in-Full.is) in
    omega (arith, n.0, n.1)

pub read_element-context_of-k-requires-in-Full : goal.read_element-context_of-k-requires-in-Full
read_element-context_of-k-requires-in-Full t c =
    let n = full-named _ _ _ _ (sym c.open_tag.ensures ∙ c.in-Full.is) in
    (omega (arith, n.0), n.1)

pub read_element-close_tag-requires : goal.read_element-close_tag-requires
read_element-close_tag-requires t c =
    let n = full-named _ _ _ _ (sym c.open_tag.ensures ∙ c.in-Full.is) in
    record { at_bound = n.0; a_in_bounds = n.1 }

pub read_element-returns-in-Shut : goal.read_element-returns-in-Shut
read_element-returns-in-Shut t c =
    let up : c.args.depth ≡ suc (c.args.depth - 1) = omega (arith, c.if-depth-eq0.false) in
    pass.one-shut _ _ _ _ _ _ _ up (sym c.open_tag.ensures ∙ c.in-Shut.is)

pub read_element-returns-in-Empty : goal.read_element-returns-in-Empty
read_element-returns-in-Empty t c =
    let up : c.args.depth ≡ suc (c.args.depth - 1) = omega (arith, c.if-depth-eq0.false) in
    rw (c.leave.ensures, c.touch_leaf.ensures, c.context_of-k.ensures) (pass.one-empty _ _ _ _ _ _ _ up _ _ (sym c.open_tag.ensures ∙ c.in-Empty.is))

pub read_element-returns-in_ok-end-in-Full : goal.read_element-returns-in_ok-end-in-Full
unfolding finished
read_element-returns-in_ok-end-in-Full t c =
    let up : c.args.depth ≡ suc (c.args.depth - 1) = omega (arith, c.if-depth-eq0.false) in
    let told = rw (c.touch_leaf-in-Full.ensures, c.context_of-k-in-Full.ensures) at c.read_content.ensures in
    let done = pass.one-close _ _ _ _ _ _ _ up _ _ (sym c.open_tag.ensures ∙ c.in-Full.is) (got_in c.read_content.result c.read_content.new.st) told _ c.in_ok-e-in-Full.was in
    rw (c.leave-in-Full.ensures, c.place.ensures, c.context_of-k-in-Full.ensures) (rw (sym c.close_tag.ensures ∙ c.in_ok-end-in-Full.was) at done)

pub read_element-returns-in_err-end-in-Full : goal.read_element-returns-in_err-end-in-Full
unfolding finished
read_element-returns-in_err-end-in-Full t c =
    let up : c.args.depth ≡ suc (c.args.depth - 1) = omega (arith, c.if-depth-eq0.false) in
    let told = rw (c.touch_leaf-in-Full.ensures, c.context_of-k-in-Full.ensures) at c.read_content.ensures in
    let done = pass.one-close _ _ _ _ _ _ _ up _ _ (sym c.open_tag.ensures ∙ c.in-Full.is) (got_in c.read_content.result c.read_content.new.st) told _ c.in_ok-e-in-Full.was in
    rw c.from_residual-in_err-end-in-Full.ensures (rw (sym c.close_tag.ensures ∙ c.in_err-end-in-Full.was) at done)

pub read_element-returns-in_err-e-in-Full : goal.read_element-returns-in_err-e-in-Full
read_element-returns-in_err-e-in-Full t c =
    let up : c.args.depth ≡ suc (c.args.depth - 1) = omega (arith, c.if-depth-eq0.false) in
    let told = rw (c.touch_leaf-in-Full.ensures, c.context_of-k-in-Full.ensures) at c.read_content.ensures in
    rw c.from_residual.ensures (pass.one-bad _ _ _ _ _ _ _ up _ _ (sym c.open_tag.ensures ∙ c.in-Full.is) (got_in c.read_content.result c.read_content.new.st) told c.in_err-e-in-Full.was)
