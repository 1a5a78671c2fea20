-- Nothing for an empty value; else three runs, one behind the other.
use mathlib.Core.List.{◌∷◌}
use mathlib.Core.Path.{refl, sym, ◌∙◌}
use native.Mathlib.Omega.{arith}
use lib.ListN.{take, length-take}
use Rattle.octets.specs.Bytes.{every}
use Rattle.octets.specs.Text.{bytes}
use Rattle.values.specs.Value.{value_at}
use Rattle.wording.proofs.Pens.{pen-none, pen-first, pen-next, pen-all, room_of_lem, room-past}
use Rattle.wording.proofs.Texts.{phrase-none, phrase-some}
use Rattle.wording.proofs.put_phrase.Goals as goal

pub returns-then-is_empty : goal.returns-then-is_empty
returns-then-is_empty c =
    let a = c.args in
    let both = pen-all (pen-none a.out.now a.pen) _ (phrase-none (value_at a.s.now a.sender) (sym c.is_empty.ensures ∙ c.if-is_empty.true)) in
    record { value = both.0; out_after = both.1 }

pub put_words-opened-requires : goal.put_words-opened-requires
unfolding every
put_words-opened-requires c = record { t_value = refl; room = room_of_lem c.requires _ (omega (arith, c.requires.short)) }

pub put_spaced-named-requires : goal.put_spaced-named-requires
unfolding bytes
put_spaced-named-requires c =
    let a = c.args in
    let one = pen-first a.out.now a.pen (bytes " Message from") (c.put_words-opened.ensures.value, c.put_words-opened.ensures.out_after) in
    room-past c.requires one _ (omega (arith, length-take 200 (value_at a.s.now a.sender)))

pub put_words-requires : goal.put_words-requires
unfolding every bytes
put_words-requires c =
    let a = c.args in
    let v = value_at a.s.now a.sender in
    let one = pen-first a.out.now a.pen (bytes " Message from") (c.put_words-opened.ensures.value, c.put_words-opened.ensures.out_after) in
    let two = pen-next one (32 ∷ take 200 v) (c.put_spaced-named.ensures.pen_value, c.put_spaced-named.ensures.out_after) in
    record { t_value = refl; room = room-past c.requires two _ (omega (arith, length-take 200 v)) }

pub returns : goal.returns
unfolding bytes
returns c =
    let a = c.args in
    let v = value_at a.s.now a.sender in
    let one = pen-first a.out.now a.pen (bytes " Message from") (c.put_words-opened.ensures.value, c.put_words-opened.ensures.out_after) in
    let two = pen-next one (32 ∷ take 200 v) (c.put_spaced-named.ensures.pen_value, c.put_spaced-named.ensures.out_after) in
    let both = pen-all (pen-next two (bytes ".") (c.put_words.ensures.value, c.put_words.ensures.out_after)) _ (phrase-some v (sym c.is_empty.ensures ∙ c.if-is_empty.false)) in
    record { value = both.0; out_after = both.1 }
