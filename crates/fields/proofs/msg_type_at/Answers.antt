-- By the value's place in the table of names, which are tried in their order.
use Prim.Native.Nat.{◌<◌}
use mathlib.Core.Path.{◌≡◌, sym, ap, ◌∙◌}
use mathlib.Core.List.{List, [], ◌∷◌}
use native.Mathlib.Omega.{arith}
use Rattle.std.specs.Prelude.{Some}
use Rattle.octets.specs.Text.{bytes}
use Rattle.words.specs.WorkingWords.{words_of}
use Rattle.words.proofs.Choices.{chosen, place-within}
use Rattle.fields.specs.WorkingFields.{msg_type_in}
use Rattle.fields.specs.declared.MsgType.{MsgType}
use Rattle.fields.specs.declared.MsgType.TheVariants.{Unknown, Alert, Update, Cancel, Ack, Error}
use Rattle.fields.proofs.msg_type_at.Goals as goal

abbrev kinds : List MsgType
kinds = Alert ∷ Update ∷ Cancel ∷ Ack ∷ Error ∷ []

pub returns-in-Some-eq0 : goal.returns-in-Some-eq0
unfolding msg_type_in bytes words_of
returns-in-Some-eq0 c = chosen Unknown _ kinds _ (sym (c.in-Some-eq0.is ∙ ap Some c.in-Some-eq0.field-0-test) ∙ c.which_value.ensures)

pub returns-in-Some-eq1 : goal.returns-in-Some-eq1
unfolding msg_type_in bytes words_of
returns-in-Some-eq1 c = chosen Unknown _ kinds _ (sym (c.in-Some-eq1.is ∙ ap Some c.in-Some-eq1.field-0-test) ∙ c.which_value.ensures)

pub returns-in-Some-eq2 : goal.returns-in-Some-eq2
unfolding msg_type_in bytes words_of
returns-in-Some-eq2 c = chosen Unknown _ kinds _ (sym (c.in-Some-eq2.is ∙ ap Some c.in-Some-eq2.field-0-test) ∙ c.which_value.ensures)

pub returns-in-Some-eq3 : goal.returns-in-Some-eq3
unfolding msg_type_in bytes words_of
returns-in-Some-eq3 c = chosen Unknown _ kinds _ (sym (c.in-Some-eq3.is ∙ ap Some c.in-Some-eq3.field-0-test) ∙ c.which_value.ensures)

-- as a place is below five, it is the last
pub returns-in-Some : goal.returns-in-Some
unfolding msg_type_in bytes words_of
returns-in-Some c =
    let k = c.in-Some.field-0 in
    let l : k < 5 = place-within _ _ (sym c.in-Some.is ∙ c.which_value.ensures) in
    let e : k ≡ 4 = omega (arith, c.in-Some.field-0-test) in
    chosen Unknown _ kinds _ (sym (c.in-Some.is ∙ ap Some e) ∙ c.which_value.ensures)

pub returns-in-None : goal.returns-in-None
unfolding msg_type_in bytes words_of
returns-in-None c = chosen Unknown _ kinds _ (sym c.in-None.is ∙ c.which_value.ensures)
