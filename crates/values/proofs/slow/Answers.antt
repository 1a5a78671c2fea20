use Rattle.std.proofs.Common.{◌∙◌, sym, ap, rules, true}
use Rattle.values.proofs.Steps.{step_by, step-first}
use Rattle.values.proofs.slow.Goals as goal

pub returns-in_err-f : goal.returns-in_err-f
returns-in_err-f c = let a = c.args in
    c.from_residual.ensures ∙ ap (step_by a.s.now) (sym (c.in_err-f.was) ∙ c.first.ensures (λ _. true) (search rules)) ∙ step-first a.s.now a.at

pub returns-then-is_space : goal.returns-then-is_space
returns-then-is_space c =
    let a = c.args in
    let e = ap (step_by a.s.now) (sym (c.in_ok-f.was) ∙ c.first.ensures (λ _. true) (search rules)) ∙ step-first a.s.now a.at in
    c.gap.ensures ∙ rw (sym c.is_space.ensures ∙ c.if-is_space.true) at e

pub returns : goal.returns
returns c =
    let a = c.args in
    let e = ap (step_by a.s.now) (sym (c.in_ok-f.was) ∙ c.first.ensures (λ _. true) (search rules)) ∙ step-first a.s.now a.at in
    rw (sym c.is_space.ensures ∙ c.if-is_space.false) at e
