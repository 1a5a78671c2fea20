use mathlib.Core.Path.{sym, ◌∙◌}
use Rattle.std.specs.Prelude.{None}
use Rattle.clock.specs.Time.{time_of}
use Rattle.values.specs.Value.{value_at}
use Rattle.message.specs.WorkingJudged.{timed}
use Rattle.message.proofs.Leaves.{read_only}
use Rattle.message.proofs.time_of.Goals as goal

pub returns-in_err-place_of : goal.returns-in_err-place_of
unfolding timed
returns-in_err-place_of c = let a = c.args in c.from_residual.ensures ∙ read_only (λ i. time_of (value_at a.s.now i)) None a.l (sym c.in_err-place_of.was ∙ c.place_of.ensures)

pub returns : goal.returns
unfolding timed
returns c = let a = c.args in c.time_at.ensures ∙ read_only (λ i. time_of (value_at a.s.now i)) None a.l (sym c.in_ok-place_of.was ∙ c.place_of.ensures)
