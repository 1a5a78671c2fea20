-- The row at the name's place decides.
use Prim.Native.Nat.{ℕ, suc, ◌-◌, ◌≤◌}
use mathlib.Core.Path.{◌≡◌, refl, sym, ap, ◌∙◌}
use native.Mathlib.Omega.{arith}
use borrow.Author.Rules.{rules}
use Rattle.std.specs.Prelude.{Some}
use Rattle.octets.specs.Text.{bytes}
use Rattle.words.specs.WorkingWords.{words_of}
use Rattle.words.proofs.Choices.{alike, place-within}
use Rattle.reads.specs.Names.{in_info}
use Rattle.reads.specs.declared.Context.TheVariants.{InfoLeaf}
use Rattle.reads.proofs.Rows.{read_names, inside_at, read-inside}
use Rattle.reads.proofs.info_context.Goals as goal

-- expires, senderName, description and instruction, at 2 to 5, are the leaves 1 to 4
leaf-at : (k : ℕ) → 2 ≤ k → k ≤ 5 → InfoLeaf (k - 1) ≡ inside_at in_info k
leaf-at k l h =
    let e : k - 1 ≡ suc (k - 2) = omega arith in
    let d : suc (suc (k - 2)) ≡ k = omega arith in
    ap InfoLeaf e ∙ alike (λ (j : ℕ). InfoLeaf (suc j)) (λ (j : ℕ). inside_at in_info (suc (suc j))) 4 refl (k - 2) (omega arith) ∙ ap (inside_at in_info) d

pub returns-in-Some-eq0 : goal.returns-in-Some-eq0
unfolding bytes words_of
returns-in-Some-eq0 c =
    let z : c.in-Some-eq0.field-0 ≡ 0 = search rules in
    read-inside in_info c.args.name.now (sym (c.in-Some-eq0.is ∙ ap Some z) ∙ c.which.ensures)

pub returns-in-Some-eq1 : goal.returns-in-Some-eq1
unfolding bytes words_of
returns-in-Some-eq1 c =
    let z : c.in-Some-eq1.field-0 ≡ 1 = search rules in
    read-inside in_info c.args.name.now (sym (c.in-Some-eq1.is ∙ ap Some z) ∙ c.which.ensures)

pub returns-in-Some-eq6 : goal.returns-in-Some-eq6
unfolding bytes words_of
returns-in-Some-eq6 c =
    let z : c.in-Some-eq6.field-0 ≡ 6 = search rules in
    read-inside in_info c.args.name.now (sym (c.in-Some-eq6.is ∙ ap Some z) ∙ c.which.ensures)

pub returns-in-Some-eq7 : goal.returns-in-Some-eq7
unfolding bytes words_of
returns-in-Some-eq7 c =
    let z : c.in-Some-eq7.field-0 ≡ 7 = search rules in
    read-inside in_info c.args.name.now (sym (c.in-Some-eq7.is ∙ ap Some z) ∙ c.which.ensures)

pub returns-in-Some-eq8 : goal.returns-in-Some-eq8
unfolding bytes words_of
returns-in-Some-eq8 c =
    let z : c.in-Some-eq8.field-0 ≡ 8 = search rules in
    read-inside in_info c.args.name.now (sym (c.in-Some-eq8.is ∙ ap Some z) ∙ c.which.ensures)

pub returns-in-Some-2-to-5 : goal.returns-in-Some-2-to-5
unfolding bytes words_of
returns-in-Some-2-to-5 c =
    leaf-at c.in-Some-2-to-5.k (search rules) (search rules) ∙ read-inside in_info c.args.name.now (sym c.in-Some-2-to-5.is ∙ c.which.ensures)

pub returns-in_default : goal.returns-in_default
unfolding bytes words_of
returns-in_default c =
    let within = place-within (read_names in_info) c.args.name.now (sym c.in_default.is ∙ c.which.ensures) in
    let over : 9 ≤ c.in_default.field-0 = search rules in
    absurd (omega (arith, within, over))

pub returns-in_default-2 : goal.returns-in_default-2
unfolding bytes words_of
returns-in_default-2 c = read-inside in_info c.args.name.now (sym c.in_default.is ∙ c.which.ensures)
