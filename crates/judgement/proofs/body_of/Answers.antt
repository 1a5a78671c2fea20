-- Each test answers its number (Alerts).
use mathlib.Core.Path.{sym, ap, ◌∙◌}
use Rattle.std.specs.Result.{result_ok}
use Rattle.judgement.specs.WorkingJudged.{answered}
use Rattle.judgement.proofs.Alerts.{refusing, no-event, no-originator, no-location, no_end, an-alert}
use Rattle.judgement.proofs.body_of.Goals as goal

pub returns-in_err-event : goal.returns-in_err-event
returns-in_err-event c =
    let a = c.args in
    let w = refusing _ 11 _ _ (sym c.ok_or.ensures.value ∙ c.in_err-event.was) c.from_residual.ensures.1 in
    ap (answered a.m) w.1 ∙ no-event a.s.now a.m (sym c.event_of.ensures ∙ w.0)

pub returns-in_err-originator : goal.returns-in_err-originator
returns-in_err-originator c =
    let a = c.args in
    let w = refusing _ 12 _ _ (sym c.ok_or-2.ensures.value ∙ c.in_err-originator.was) c.from_residual-in_err-originator.ensures.1 in
    ap (answered a.m) w.1 ∙ no-originator a.s.now a.m _ (sym c.event_of.ensures ∙ c.ok_or.ensures.ok_part ∙ ap result_ok c.in_ok-event.was) (sym c.origin_of.ensures ∙ w.0)

pub returns-then-not-is_located : goal.returns-then-not-is_located
returns-then-not-is_located c =
    let a = c.args in
    no-location a.s.now a.m _ (sym c.event_of.ensures ∙ c.ok_or.ensures.ok_part ∙ ap result_ok c.in_ok-event.was) _
    (sym c.origin_of.ensures ∙ c.ok_or-2.ensures.ok_part ∙ ap result_ok c.in_ok-originator.was) (sym c.is_located.ensures ∙ c.if-not-is_located.true)

pub returns-then-seconds-eq0 : goal.returns-then-seconds-eq0
returns-then-seconds-eq0 c =
    let a = c.args in
    no_end a.s.now a.m _ (sym c.event_of.ensures ∙ c.ok_or.ensures.ok_part ∙ ap result_ok c.in_ok-event.was) _
    (sym c.origin_of.ensures ∙ c.ok_or-2.ensures.ok_part ∙ ap result_ok c.in_ok-originator.was) (sym c.is_located.ensures ∙ c.if-not-is_located.false)
    _ c.seconds_to-seconds.ensures c.if-seconds-eq0.true

pub returns : goal.returns
returns c =
    let a = c.args in
    rw c.body_with.ensures
    (an-alert a.s.now a.m _ (sym c.event_of.ensures ∙ c.ok_or.ensures.ok_part ∙ ap result_ok c.in_ok-event.was) _
    (sym c.origin_of.ensures ∙ c.ok_or-2.ensures.ok_part ∙ ap result_ok c.in_ok-originator.was) (sym c.is_located.ensures ∙ c.if-not-is_located.false)
    _ c.seconds_to-seconds.ensures c.if-seconds-eq0.false)
