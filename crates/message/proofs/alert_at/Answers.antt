-- The root, and what follows it (Roots).
use mathlib.Core.Path.{sym, ap, ◌∙◌}
use Rattle.markup.specs.Tree.{elem_at}
use Rattle.message.specs.WorkingMessage.{alert_judged}
use Rattle.message.proofs.Roots.{in-context, pass-none, pass-unended, pass-is}
use Rattle.message.proofs.alert_at.Goals as goal

pub returns-in_err-g : goal.returns-in_err-g
returns-in_err-g c =
    let a = c.args in
    rw c.from_residual.ensures (pass-none a.s.now a.p.now a.ok (elem_at a.s.now 12 a.i) _ (in-context _ _ _ _ _ _ c.element-g.ensures c.root_context.ensures) c.in_err-g.was)

pub returns-in_err-k : goal.returns-in_err-k
returns-in_err-k c =
    let a = c.args in
    rw c.from_residual-in_err-k.ensures (pass-unended a.s.now a.p.now a.ok (elem_at a.s.now 12 a.i) _ (in-context _ _ _ _ _ _ c.element-g.ensures c.root_context.ensures) _ c.in_ok-g.was (sym c.misc.ensures ∙ c.in_err-k.was))

pub returns : goal.returns
returns c =
    let a = c.args in
    ap (alert_judged a.s.now a.ok) c.then_some.ensures
    ∙ pass-is a.s.now a.p.now a.ok (elem_at a.s.now 12 a.i) _ (in-context _ _ _ _ _ _ c.element-g.ensures c.root_context.ensures) _ c.in_ok-g.was _ (sym c.misc.ensures ∙ c.in_ok-k.was)
