use mathlib.Core.Path.{◌∙◌}
use mathlib.Core.Bool.{false}
use Rattle.std.proofs.Common.{rules}
use Rattle.reads.specs.WorkingLeaves.{only_of}
use Rattle.values.specs.Value.{value_at}
use Rattle.fields.specs.Fields.{identity_ok}
use Rattle.message.specs.WorkingJudged.{identified}
use Rattle.message.proofs.Leaves.{asked-only, both-hold}
use Rattle.message.proofs.is_identified.Goals as goal

pub returns : goal.returns
unfolding identified
returns c =
    let a = c.args in
    asked-only (λ i. identity_ok (value_at a.s.now i)) false a.l _ _ (search rules) c.place_of.ensures ∙ both-hold (only_of a.l) (identity_ok (value_at a.s.now a.l.at))
