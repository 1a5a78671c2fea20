use Rattle.std.proofs.Common.{rules}
use Rattle.values.specs.Value.{value_at}
use Rattle.fields.specs.WorkingFields.{msg_type_in}
use Rattle.fields.specs.declared.MsgType.TheVariants.{Unknown}
use Rattle.message.specs.WorkingJudged.{typed}
use Rattle.message.proofs.Leaves.{asked-only}
use Rattle.message.proofs.msg_type_of.Goals as goal

pub returns : goal.returns
unfolding typed
returns c = let a = c.args in asked-only (λ i. msg_type_in (value_at a.s.now i)) Unknown a.l _ _ (search rules) c.place_of.ensures
