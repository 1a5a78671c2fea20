use mathlib.Core.Path.{◌∙◌}
use Rattle.message.specs.WorkingMessage.{judged}
use Rattle.message.proofs.Leaves.{zero-absent}
use Rattle.message.proofs.judge.Goals as goal

pub returns : goal.returns
unfolding judged
returns c =
    let z = c.unwrap_or.ensures ∙ zero-absent c.time_of-sent.result in
    rw (z, c.number_with.ensures, c.field_with-field.ensures, c.scope_of-scope.ensures, c.msg_type_of-msg_type.ensures, c.status_of-status.ensures, c.time_of-sent.ensures)
