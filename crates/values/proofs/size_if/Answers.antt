use Rattle.std.proofs.Common.{◌≡◌, ◌∙◌, ◌+◌, sym, inl, inr, arith}
use mathlib.Core.Logic.{⊎_elim}
use Rattle.calm.proofs.Calms.{run-edge}
use Rattle.values.proofs.Loops.{read-starts, read_more, read_done}
use Rattle.values.proofs.Printables.{fit-starts, fit-more, fit-fails, fit-done}
use Rattle.values.proofs.Calms.{read-calm, fit-calm}
use Rattle.values.proofs.size_if.Goals as goal

pub loop-c-init : goal.loop-c-init
loop-c-init g c = (rw c.lead-i.ensures (read-starts _ _), (inl (omega arith), λ p h t. rw c.lead-i.ensures (fit-starts _ _)))

pub overflow_add-i : goal.overflow_add-i
overflow_add-i g c = ⊎_elim (λ h. omega (arith, h)) (λ h. omega (arith, h)) (run-edge _ _ _ _ c.calm-n.ensures.1 c.loop-c.invariant.1.0)

pub overflow_add-result : goal.overflow_add-result
overflow_add-result g c =
    let r = (read-calm _ c.calm-n.ensures.1 c.loop-c.invariant.0).counts in
    ⊎_elim (λ h. omega (arith, h, r)) (λ h. omega (arith, h, r)) (run-edge _ _ _ _ c.calm-n.ensures.1 c.loop-c.invariant.1.0)

pub returns-in_default : goal.returns-in_default
returns-in_default g c = λ p h t.
    let r = fit-calm _ c.calm-n.ensures.1 t (c.loop-c.invariant.1.1 p h t) in
    fit-done r (read_done r.reads (sym c.slow.ensures ∙ c.in_default.is))

pub returns-then-not-fits : goal.returns-then-not-fits
returns-then-not-fits g c = λ p h t.
    let r = fit-calm _ c.calm-n.ensures.1 t (c.loop-c.invariant.1.1 p h t) in
    fit-fails r (read_more r.reads _ _ (sym c.slow.ensures ∙ c.in-Some.is)) (sym (h _ _ c.fits.ensures) ∙ c.if-not-fits.true)

pub overflow_add-k-in-loop-c : goal.overflow_add-k-in-loop-c
overflow_add-k-in-loop-c g c =
    let r = read-calm _ c.calm-n.ensures.1 c.loop-c.invariant.0 in
    let m = read_more r _ _ (sym c.slow.ensures ∙ c.in-Some.is) in
    omega (arith, m.goes.on, m.goes.in-it, r.counts)

pub loop-c-smaller : goal.loop-c-smaller
loop-c-smaller g c =
    let m = read_more (read-calm _ c.calm-n.ensures.1 c.loop-c.invariant.0) _ _ (sym c.slow.ensures ∙ c.in-Some.is) in
    omega (arith, m.goes.on, m.goes.in-it)

pub loop-c-preserved : goal.loop-c-preserved
loop-c-preserved g c =
    let l = c.loop-c in
    let n = c.calm-n.result in
    let e : l.k + (n + 1) ≡ l.k + n + 1 = omega arith in
    let m = read_more (read-calm _ c.calm-n.ensures.1 c.loop-c.invariant.0) _ _ (sym c.slow.ensures ∙ c.in-Some.is) in
    (rw e m.reads, (inr m.goes.in-it, λ p h t. rw e (fit-more (fit-calm _ c.calm-n.ensures.1 t (c.loop-c.invariant.1.1 p h t)) m (sym (h _ _ c.fits.ensures) ∙ c.if-not-fits.false))))
