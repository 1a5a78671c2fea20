use mathlib.Core.Path.{sym, ap, ◌∙◌}
use Rattle.values.specs.Value.{value_at}
use Rattle.fields.specs.WorkingFields.{index_in, statuses, status_place}
use Rattle.message.specs.WorkingJudged.{place_among}
use Rattle.message.proofs.Leaves.{read_only}
use Rattle.message.proofs.status_of.Goals as goal

pub returns-in_err-place_of : goal.returns-in_err-place_of
unfolding place_among
returns-in_err-place_of c =
    let a = c.args in
    ap status_place c.from_residual.ensures ∙ read_only (λ i. index_in statuses (value_at a.s.now i)) 0 a.l (sym c.in_err-place_of.was ∙ c.place_of.ensures)

pub returns : goal.returns
unfolding place_among
returns c = let a = c.args in c.status_at.ensures ∙ read_only (λ i. index_in statuses (value_at a.s.now i)) 0 a.l (sym c.in_ok-place_of.was ∙ c.place_of.ensures)
