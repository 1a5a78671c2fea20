-- A mark is the first character; else it stands where what follows white space does.
use mathlib.Core.Path.{sym, ap, ◌∙◌}
use Rattle.std.proofs.Common.{rules}
use Rattle.calm.specs.WorkingCalm.{is_mark}
use Rattle.values.specs.WorkingSteps.{placed, lead_at}
use Rattle.values.proofs.Steps.{mark-lead}
use Rattle.values.proofs.lead.Goals as goal

pub returns-then-is_mark : goal.returns-then-is_mark
returns-then-is_mark c =
    let a = c.args in
    sym (mark-lead a.s.now a.at (ap is_mark (sym c.byte.ensures) ∙ sym c.is_mark.ensures ∙ c.if-is_mark.true))

pub returns : goal.returns
unfolding lead_at placed
returns c = rw (sym c.gap.ensures) (search rules)
