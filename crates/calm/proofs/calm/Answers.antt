use mathlib.Core.Logic.{inl, ⊎_elim}
use native.Mathlib.Omega.{arith}
use Rattle.calm.proofs.Calms.{run-edge}
use Rattle.calm.proofs.calm.Goals as goal

pub overflow_add-at : goal.overflow_add-at
overflow_add-at c =
    let a = c.args in
    let l = c.loop-n in
    ⊎_elim (λ h. omega (arith, h)) (λ h. omega (arith, h)) (run-edge a.s.now a.at a.at l.n l.invariant (inl (omega arith)))
