-- The alert in the root, and then its number.
use mathlib.Core.Path.{sym, ap, ap₂, ◌∙◌}
use Rattle.message.specs.WorkingMessage.{alert_judged}
use Rattle.message.proofs.pass.Goals as goal

pub returns-in_default : goal.returns-in_default
returns-in_default c = let a = c.args in c.refused.ensures ∙ ap (alert_judged a.s.now a.ok) (sym c.in_default.is) ∙ c.alert_at.ensures

pub returns-then-not-ok : goal.returns-then-not-ok
returns-then-not-ok c = let a = c.args in c.refused-then-not-ok.ensures ∙ ap₂ (alert_judged a.s.now) (sym c.if-not-ok.true) (sym c.in-Some.is) ∙ c.alert_at.ensures

pub returns : goal.returns
returns c = let a = c.args in c.judge.ensures ∙ ap₂ (alert_judged a.s.now) (sym c.if-not-ok.false) (sym c.in-Some.is) ∙ c.alert_at.ensures
