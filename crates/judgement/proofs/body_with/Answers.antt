-- The instant and the seconds give the times; all else is handed on.
use Rattle.judgement.specs.WorkingJudged.{body_with}
use Rattle.judgement.proofs.body_with.Goals as goal

pub returns : goal.returns
unfolding body_with
returns c = rw (c.period.ensures, c.stamp_of-on.ensures)
