-- Without a sign there is no offset; behind one its minutes decide.
use mathlib.Core.Path.{sym, ◌∙◌}
use Rattle.clock.proofs.Pieces.{read_no, zone-is}
use Rattle.clock.proofs.zone.Goals as goal

pub returns-then-not-is_sign : goal.returns-then-not-is_sign
returns-then-not-is_sign c = sym (read_no _ _ 0 (sym c.is_sign.ensures ∙ c.if-not-is_sign.true))

pub returns : goal.returns
returns c =
    c.minutes.ensures ∙ sym (zone-is c.args.t.now (sym c.is_sign.ensures ∙ c.if-not-is_sign.false))
