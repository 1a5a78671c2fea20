use Rattle.std.proofs.Common.{sym, ◌∙◌, arith}
use Rattle.values.proofs.Absent.{by_some}
use Rattle.values.proofs.Loops.{read_more, rest-starts, exceeds-not, exceeds-so}
use Rattle.values.proofs.exceeds.Goals as goal

pub loop-init : goal.loop-init
loop-init c = rest-starts _ _

pub loop-preserved : goal.loop-preserved
loop-preserved c = (read_more c.loop.invariant _ _ (sym c.step.ensures ∙ c.in-Some.is)).reads

pub returns-in_default : goal.returns-in_default
returns-in_default c = let a = c.args in exceeds-not a.s.now a.at c.loop.invariant (sym c.step.ensures ∙ c.in_default.is) a.n (omega arith)

pub returns : goal.returns
returns c =
    let a = c.args in
    by_some c.step-2.result _ _ (sym c.is_some.ensures)
    (λ e. sym (exceeds-not a.s.now a.at c.loop.invariant (sym c.step-2.ensures ∙ e) a.n (omega arith)))
    (λ x j e. sym (exceeds-so a.s.now a.at c.loop.invariant x j (sym c.step-2.ensures ∙ e) a.n (omega arith)))
