-- The message's own numbers come first, then references and quiet Cancels; every instant lies in 2000 to 2099.
use mathlib.Core.Path.{sym, ◌∙◌}
use borrow.Author.Tests.{eq-eqb, ne_eqb}
use Rattle.leaves.proofs.Fits.{sent-in}
use Rattle.judgement.specs.WorkingJudged.{judged_by}
use Rattle.judgement.proofs.judge.Goals as goal

pub returns-then-m-ne0 : goal.returns-then-m-ne0
unfolding judged_by
returns-then-m-ne0 c = rw (sym c.read-m.ensures, ne_eqb _ _ c.if-m-ne0.true) c.no_header.ensures

pub returns-then-lacks_references : goal.returns-then-lacks_references
unfolding judged_by
returns-then-lacks_references c = rw (sym c.read-m.ensures, eq-eqb _ _ c.if-m-ne0.false, sym c.lacks_references.ensures ∙ c.if-lacks_references.true) c.no_header-then-lacks_references.ensures

pub returns-then-is_quiet : goal.returns-then-is_quiet
unfolding judged_by
returns-then-is_quiet c =
    rw (sym c.read-m.ensures, eq-eqb _ _ c.if-m-ne0.false, sym c.lacks_references.ensures ∙ c.if-lacks_references.false, sym c.is_quiet.ensures ∙ c.if-is_quiet.true)
    c.no_header-then-is_quiet.ensures

pub alert_of-requires : goal.alert_of-requires
alert_of-requires c =
    rw c.read-m.ensures (sent-in c.args.s.now)

pub returns : goal.returns
unfolding judged_by
returns c =
    rw (sym c.read-m.ensures, eq-eqb _ _ c.if-m-ne0.false, sym c.lacks_references.ensures ∙ c.if-lacks_references.false, sym c.is_quiet.ensures ∙ c.if-is_quiet.false)
    c.alert_of.ensures
