-- The station first, then the message.
use mathlib.Core.Path.{sym, ◌∙◌}
use Rattle.convert.specs.WorkingConvert.{judged_for}
use Rattle.convert.proofs.judge.Goals as goal

pub returns-then-not-station_ok : goal.returns-then-not-station_ok
unfolding judged_for
returns-then-not-station_ok c = rw (sym c.station_ok.ensures ∙ c.if-not-station_ok.true) c.refused.ensures

pub returns : goal.returns
unfolding judged_for
returns c = rw (sym c.station_ok.ensures ∙ c.if-not-station_ok.false) c.judge.ensures
