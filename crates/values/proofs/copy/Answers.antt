-- The blocks that the value begins with are put at once, and behind them what is left of the characters that are taken.
use mathlib.Core.Path.{refl, ap, ◌∙◌}
use mathlib.Core.List.{map}
use mathlib.Core.Logic.{inl, ⊎_elim}
use native.Mathlib.Omega.{arith}
use lib.ListN.{length, take}
use lib.Seq.{length-sets}
use Rattle.calm.proofs.Calms.{run-edge}
use Rattle.values.specs.Value.{value_at}
use Rattle.values.specs.WorkingSteps.{low}
use Rattle.values.proofs.Loops.{copy-room, copy-behind}
use Rattle.values.proofs.Calms.{copy-run}
use Rattle.values.proofs.copy.Goals as goal

pub put_calm-requires : goal.put_calm-requires
put_calm-requires c =
    let a = c.args in
    let z = copy-run a.at c.lead-i.ensures _ c.calm_blocks-n.ensures.1 a.g a.out.now a.to c.calm_blocks-n.ensures.0 _ refl in
    record { calm = c.calm_blocks-n.ensures.1; n_in_bounds = omega (arith, copy-room z c.requires, z.long) }

pub overflow_add-i : goal.overflow_add-i
overflow_add-i c =
    let s = c.args.s.now in
    let i = c.lead-i.result in
    ⊎_elim (λ h. omega (arith, h)) (λ h. omega (arith, h)) (run-edge s i i c.calm_blocks-n.result c.calm_blocks-n.ensures.1 (inl (omega arith)))

pub overflow_sub-g : goal.overflow_sub-g
overflow_sub-g c = c.calm_blocks-n.ensures.0

pub overflow_add-to : goal.overflow_add-to
overflow_add-to c =
    let a = c.args in
    let r = copy-run a.at c.lead-i.ensures _ c.calm_blocks-n.ensures.1 a.g a.out.now a.to c.calm_blocks-n.ensures.0 _ c.put_calm.ensures in
    omega (arith, copy-room r c.requires, r.long)

pub copy_rest-requires : goal.copy_rest-requires
copy_rest-requires c =
    let a = c.args in
    copy-room (copy-run a.at c.lead-i.ensures _ c.calm_blocks-n.ensures.1 a.g a.out.now a.to c.calm_blocks-n.ensures.0 _ c.put_calm.ensures) c.requires

pub overflow_add-result : goal.overflow_add-result
overflow_add-result c =
    let a = c.args in
    let r = copy-run a.at c.lead-i.ensures _ c.calm_blocks-n.ensures.1 a.g a.out.now a.to c.calm_blocks-n.ensures.0 _ c.put_calm.ensures in
    let e = (copy-behind r c.copy_rest.result _ c.copy_rest.ensures.value c.copy_rest.ensures.out_after).0 in
    omega (arith, e, c.requires)

pub shape_of-out : goal.shape_of-out
shape_of-out c =
    let a = c.args in
    let r = copy-run a.at c.lead-i.ensures _ c.calm_blocks-n.ensures.1 a.g a.out.now a.to c.calm_blocks-n.ensures.0 _ c.put_calm.ensures in
    ap length (copy-behind r c.copy_rest.result _ c.copy_rest.ensures.value c.copy_rest.ensures.out_after).1
    ∙ length-sets a.out.now a.to (map low (take a.g (value_at a.s.now a.at)))

pub returns : goal.returns
returns c =
    let a = c.args in
    let r = copy-run a.at c.lead-i.ensures _ c.calm_blocks-n.ensures.1 a.g a.out.now a.to c.calm_blocks-n.ensures.0 _ c.put_calm.ensures in
    let both = copy-behind r c.copy_rest.result _ c.copy_rest.ensures.value c.copy_rest.ensures.out_after in
    record { value = both.0; out_after = both.1 }
