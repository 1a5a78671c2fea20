use Prim.Native.Nat.{◌+◌, ◌<◌}
use mathlib.Core.Path.{refl, sym, ◌∙◌}
use mathlib.Core.Logic.{inl, inr, ⊎_elim}
use native.Mathlib.Omega.{arith}
use Rattle.characters.proofs.Legals.{legal-most}
use Rattle.calm.proofs.Calms.{run-edge}
use Rattle.values.proofs.Steps.{step-more}
use Rattle.values.proofs.Loops.{spell-starts, next-legal, fits, spell-more, spell-done, spell-full}
use Rattle.values.proofs.Calms.{spell-run}
use Rattle.values.proofs.spell.Goals as goal

pub loop-count-init : goal.loop-count-init
loop-count-init c = (spell-starts _ _ _ _ _, inl (omega arith))

pub overflow_sub-g : goal.overflow_sub-g
overflow_sub-g c = c.loop-count.invariant.0.most

pub put_calm-requires : goal.put_calm-requires
put_calm-requires c =
    let p = c.loop-count.invariant.0 in
    let r = spell-run p _ c.calm-n.ensures.1 c.calm-n.ensures.0 _ refl in
    record { calm = c.calm-n.ensures.1; n_in_bounds = omega (arith, r.ends, c.requires, p.long) }

pub overflow_add-count : goal.overflow_add-count
overflow_add-count c = let r = spell-run c.loop-count.invariant.0 _ c.calm-n.ensures.1 c.calm-n.ensures.0 _ c.put_calm.ensures in omega (arith, r.most)

pub overflow_add-end : goal.overflow_add-end
overflow_add-end c = let r = spell-run c.loop-count.invariant.0 _ c.calm-n.ensures.1 c.calm-n.ensures.0 _ c.put_calm.ensures in omega (arith, r.ends, c.requires)

pub overflow_add-next : goal.overflow_add-next
overflow_add-next c = ⊎_elim (λ h. omega (arith, h)) (λ h. omega (arith, h)) (run-edge _ _ _ _ c.calm-n.ensures.1 c.loop-count.invariant.1)

pub shape_of-out-then-count-g : goal.shape_of-out-then-count-g
shape_of-out-then-count-g c = (spell-run c.loop-count.invariant.0 _ c.calm-n.ensures.1 c.calm-n.ensures.0 _ c.put_calm.ensures).long

pub returns-then-count-g : goal.returns-then-count-g
returns-then-count-g c =
    let r = spell-run c.loop-count.invariant.0 _ c.calm-n.ensures.1 c.calm-n.ensures.0 _ c.put_calm.ensures in
    let both = spell-full r (omega (arith, c.if-count-g.true)) in
    record { value = both.0; out_after = both.1 }

pub shape_of-out-in_default : goal.shape_of-out-in_default
shape_of-out-in_default c = (spell-run c.loop-count.invariant.0 _ c.calm-n.ensures.1 c.calm-n.ensures.0 _ c.put_calm.ensures).long

pub returns-in_default : goal.returns-in_default
returns-in_default c =
    let r = spell-run c.loop-count.invariant.0 _ c.calm-n.ensures.1 c.calm-n.ensures.0 _ c.put_calm.ensures in
    let both = spell-done r (sym c.slow.ensures ∙ c.in_default.is) in
    record { value = both.0; out_after = both.1 }

pub put_scalar-end-requires : goal.put_scalar-end-requires
put_scalar-end-requires c =
    let r = spell-run c.loop-count.invariant.0 _ c.calm-n.ensures.1 c.calm-n.ensures.0 _ c.put_calm.ensures in
    let q = sym c.slow.ensures ∙ c.in-Some.is in
    let l : c.loop-count.count + c.calm-n.result < c.args.g = omega (arith, r.most, c.if-count-g.false) in
    record { c_in_bounds = fits r _ _ q l c.requires; c_bound = legal-most _ (next-legal r _ _ q l) }

pub overflow_add-count-in-loop-count : goal.overflow_add-count-in-loop-count
overflow_add-count-in-loop-count c =
    let r = spell-run c.loop-count.invariant.0 _ c.calm-n.ensures.1 c.calm-n.ensures.0 _ c.put_calm.ensures in
    omega (arith, r.most, c.if-count-g.false)

pub loop-count-smaller : goal.loop-count-smaller
loop-count-smaller c = let g = (step-more _ _ _ _ (sym c.slow.ensures ∙ c.in-Some.is)).1 in omega (arith, g.on, g.in-it)

pub loop-count-preserved : goal.loop-count-preserved
loop-count-preserved c =
    let r = spell-run c.loop-count.invariant.0 _ c.calm-n.ensures.1 c.calm-n.ensures.0 _ c.put_calm.ensures in
    let q = sym c.slow.ensures ∙ c.in-Some.is in
    (rw c.put_scalar-end.ensures.value (spell-more r _ _ q (omega (arith, r.most, c.if-count-g.false)) _ c.put_scalar-end.ensures.out_after), inr (step-more _ _ _ _ q).1.in-it)
