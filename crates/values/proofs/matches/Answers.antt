use Rattle.std.proofs.Common.{◌≡◌, ◌∙◌, ◌+◌, refl, sym, ap, arith, length}
use Rattle.std.specs.Prelude.{Some}
use borrow.Author.Tests.{eq-eqb, ne_eqb}
use Rattle.values.specs.WorkingSteps.{step_at}
use Rattle.values.proofs.Absent.{by_none}
use Rattle.values.proofs.Loops.{mark-is, read-starts, read_more, read_done, match-more, match-differs, match-over, match-done}
use Rattle.values.proofs.Steps.{step-more}
use Rattle.values.proofs.matches.Goals as goal

pub loop-b-init : goal.loop-b-init
loop-b-init g c = λ f h. rw c.lead-i.ensures (record { reads = read-starts _ _; fits = omega arith; left = refl })

pub overflow_add-i : goal.overflow_add-i
overflow_add-i g c =
    let i = c.loop-b.i in
    let e : step_at c.args.s.now i ≡ Some (c.byte-x.result, i + 1) = mark-is _ _ _ _ c.byte-x.ensures c.is_mark.ensures c.if-is_mark.true in
    let l = (step-more _ _ _ _ e).1.in-it in
    omega arith

pub returns-then-form-from : goal.returns-then-form-from
returns-then-form-from g c = λ f h.
    let r = c.loop-b.invariant f h in
    let m = read_more r.reads _ _ (mark-is _ _ _ _ c.byte-x.ensures c.is_mark.ensures c.if-is_mark.true) in
    match-differs r m c.loop-b-test.true (λ e. c.if-form-from.true (h _ _ c.form.ensures ∙ ap f c.from.ensures ∙ e ∙ sym c.from-then-is_mark.ensures))

pub loop-b-preserved-then-is_mark : goal.loop-b-preserved-then-is_mark
loop-b-preserved-then-is_mark g c = λ f h.
    let r = c.loop-b.invariant f h in
    let m = read_more r.reads _ _ (mark-is _ _ _ _ c.byte-x.ensures c.is_mark.ensures c.if-is_mark.true) in
    match-more r m c.loop-b-test.true (sym (h _ _ c.form.ensures ∙ ap f c.from.ensures) ∙ c.if-form-from.false ∙ c.from-then-is_mark.ensures)

pub returns-in_default : goal.returns-in_default
returns-in_default g c = λ f h.
    let r = c.loop-b.invariant f h in
    sym (ne_eqb _ _ (omega arith)) ∙ match-done r (read_done r.reads (sym c.slow.ensures ∙ c.in_default.is))

pub returns-then-form-from-2 : goal.returns-then-form-from-2
returns-then-form-from-2 g c = λ f h.
    let r = c.loop-b.invariant f h in
    match-differs r (read_more r.reads _ _ (sym c.slow.ensures ∙ c.in-Some.is)) c.loop-b-test.true (λ e. c.if-form-from-2.true (h _ _ c.form-in-loop-b.ensures ∙ e ∙ sym c.from-in-loop-b.ensures))

pub loop-b-preserved : goal.loop-b-preserved
loop-b-preserved g c = λ f h.
    let r = c.loop-b.invariant f h in
    match-more r (read_more r.reads _ _ (sym c.slow.ensures ∙ c.in-Some.is)) c.loop-b-test.true (sym (h _ _ c.form-in-loop-b.ensures) ∙ c.if-form-from-2.false ∙ c.from-in-loop-b.ensures)

pub returns : goal.returns
returns g c = λ f h.
    let r = c.loop-b.invariant f h in
    let n : c.loop-b.b-index ≡ length c.args.w.now = omega (arith, r.fits) in
    by_none c.step.result _ _ c.is_none.ensures
    (λ e. sym (match-done r (read_done r.reads (sym c.step.ensures ∙ e))) ∙ eq-eqb _ _ n)
    (λ _ _ e. sym (match-over r (read_more r.reads _ _ (sym c.step.ensures ∙ e)) n))
