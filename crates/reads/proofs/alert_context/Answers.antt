-- The row at the name's place decides.
use mathlib.Core.Path.{◌≡◌, refl, sym, ap, ◌∙◌}
use mathlib.Core.Logic.{◌⊎◌, inl, inr}
use native.Mathlib.Omega.{arith}
use Rattle.std.specs.Prelude.{Some}
use Rattle.octets.specs.Text.{bytes}
use Rattle.words.specs.WorkingWords.{words_of}
use Rattle.words.proofs.Choices.{alike, place-within}
use Rattle.reads.specs.Names.{in_alert, info_inside}
use Rattle.reads.specs.declared.Kept.{Kept}
use Rattle.reads.specs.declared.Kept.TheVariants.{Nothing, First}
use Rattle.reads.specs.declared.Context.TheVariants.{Info, AlertLeaf}
use Rattle.reads.proofs.Rows.{read_names, inside_at, read-inside}
use Rattle.reads.proofs.alert_context.Goals as goal

whole : (k : Kept) → k ≡ Nothing ⊎ k ≡ First → Info ≡ info_inside k
whole k (inl e) = rw e
whole k (inr e) = rw e

pub returns-in-Nothing : goal.returns-in-Nothing
unfolding bytes words_of
returns-in-Nothing c =
    whole c.args.kept c.in-Nothing.is ∙ read-inside (in_alert c.args.kept) c.args.name.now (sym (c.in-Some-eq7.is ∙ ap Some c.in-Some-eq7.field-0-test) ∙ c.which.ensures)

pub returns-in-Selected : goal.returns-in-Selected
unfolding bytes words_of
returns-in-Selected c =
    ap info_inside (sym c.in-Selected.is) ∙ read-inside (in_alert c.args.kept) c.args.name.now (sym (c.in-Some-eq7.is ∙ ap Some c.in-Some-eq7.field-0-test) ∙ c.which.ensures)

pub returns-in-Some : goal.returns-in-Some
unfolding bytes words_of
returns-in-Some c =
    let e = sym c.in-Some.is ∙ c.which.ensures in
    let rows = in_alert c.args.kept in
    let within = place-within (read_names rows) c.args.name.now e in
    alike AlertLeaf (inside_at rows) 7 refl c.in-Some.k (omega (arith, within, c.in-Some.k-test.1)) ∙ read-inside rows c.args.name.now e

pub returns-in-None : goal.returns-in-None
unfolding bytes words_of
returns-in-None c = read-inside (in_alert c.args.kept) c.args.name.now (sym c.in-None.is ∙ c.which.ensures)
