-- The value's place in the table, counted from 1.
use Prim.Native.Nat.{◌<◌}
use mathlib.Core.Path.{◌≡◌, refl, sym, ap, ◌∙◌}
use native.Mathlib.Omega.{arith}
use Rattle.std.specs.Prelude.{Some}
use Rattle.words.proofs.Choices.{place-within}
use Rattle.octets.specs.Text.{bytes}
use Rattle.words.specs.WorkingWords.{words_of}
use Rattle.fields.specs.WorkingFields.{scopes, scope_place}
use Rattle.fields.proofs.Places.{from_one, counted}
use Rattle.fields.proofs.scope_at.Goals as goal

pub returns-in_err-which_value : goal.returns-in_err-which_value
unfolding bytes words_of
returns-in_err-which_value c = ap scope_place c.from_residual.ensures ∙ ap from_one (sym c.in_err-which_value.was) ∙ counted scopes _ _ refl c.which_value.ensures

pub returns-in-0 : goal.returns-in-0
unfolding bytes words_of
returns-in-0 c = sym (ap from_one (c.in_ok-which_value.was ∙ ap Some c.in-0.is)) ∙ counted scopes _ _ refl c.which_value.ensures

pub returns-in-1 : goal.returns-in-1
unfolding bytes words_of
returns-in-1 c = sym (ap from_one (c.in_ok-which_value.was ∙ ap Some c.in-1.is)) ∙ counted scopes _ _ refl c.which_value.ensures

-- as a place is below three, it is the last
pub returns-in_default : goal.returns-in_default
unfolding bytes words_of
returns-in_default c =
    let k = c.in_ok-which_value.field-0 in
    let l : k < 3 = place-within _ _ (sym c.in_ok-which_value.was ∙ c.which_value.ensures) in
    let e : k ≡ 2 = omega arith in
    sym (ap from_one (c.in_ok-which_value.was ∙ ap Some e)) ∙ counted scopes _ _ refl c.which_value.ensures
