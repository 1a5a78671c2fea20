-- Only a Cancel is asked.
use mathlib.Core.Bool.{Bool}
use mathlib.Core.Path.{◌≡◌, sym, ◌∙◌}
use denote.Enum.Bare.{sameb}
use Rattle.fields.specs.contracts.MsgType as MsgTypes
use Rattle.fields.specs.declared.MsgType.{MsgType}
use Rattle.judgement.specs.WorkingRules.{is_cancel, quiet_of}
use Rattle.judgement.proofs.is_quiet.Goals as goal

cancel : (t : MsgType) (r : Bool) → r ≡ sameb MsgTypes.the_type t MsgType.Cancel → r ≡ is_cancel t
cancel MsgType.Unknown r e = e
cancel MsgType.Alert r e = e
cancel MsgType.Update r e = e
cancel MsgType.Cancel r e = e
cancel MsgType.Ack r e = e
cancel MsgType.Error r e = e

pub returns-then-eq : goal.returns-then-eq
unfolding quiet_of
returns-then-eq c = rw (sym (cancel _ _ c.eq.ensures) ∙ c.if-eq.true, c.is_complete.ensures)

pub returns-else-eq : goal.returns-else-eq
unfolding quiet_of
returns-else-eq c = rw (sym (cancel _ _ c.eq.ensures), c.if-eq.false)
