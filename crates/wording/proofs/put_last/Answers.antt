-- By whether more than three characters are left.
use mathlib.Core.Path.{refl, sym, ap, ◌∙◌}
use native.Mathlib.Omega.{arith}
use lib.ListN.{length, take}
use Rattle.octets.specs.Bytes.{every}
use Rattle.octets.specs.Text.{bytes}
use Rattle.values.specs.WorkingSteps.{rest_at}
use Rattle.wording.proofs.Cuts.{last_more, last-three}
use Rattle.wording.proofs.Pens.{pen-first, pen-all, room_for, room_of_lem}
use Rattle.wording.proofs.Spells.{count-is, spelled-put}
use Rattle.wording.proofs.put_last.Goals as goal

pub put_words-requires : goal.put_words-requires
unfolding bytes every
put_words-requires c =
    let left = rest_at c.args.s.now c.args.i in
    record { t_value = refl; room = room_of_lem c.requires 3 (omega (arith, c.requires.short, ap length (last_more left (sym c.exceeds.ensures ∙ c.if-exceeds.true)))) }

pub returns-then-exceeds : goal.returns-then-exceeds
unfolding bytes
returns-then-exceeds c =
    let a = c.args in
    let left = rest_at a.s.now a.i in
    let both = pen-all (pen-first a.out.now a.pen (bytes "***") (c.put_words.ensures.value, c.put_words.ensures.out_after)) _ (last_more left (sym c.exceeds.ensures ∙ c.if-exceeds.true)) in
    record { value = both.0; out_after = both.1 }

pub spell-spelled-requires : goal.spell-spelled-requires
spell-spelled-requires c =
    let left = rest_at c.args.s.now c.args.i in
    room_for c.requires (take 3 left) (omega (arith, ap length (last-three left (sym c.exceeds.ensures ∙ c.if-exceeds.false))))

pub overflow_add-result : goal.overflow_add-result
overflow_add-result c =
    let left = rest_at c.args.s.now c.args.i in
    omega (arith, c.requires.short, count-is _ _ _ _ _ left refl c.spell-spelled.ensures.value, ap length (last-three left (sym c.exceeds.ensures ∙ c.if-exceeds.false)))

pub returns : goal.returns
returns c =
    let a = c.args in
    let left = rest_at a.s.now a.i in
    let three = spelled-put _ _ _ _ _ left refl c.spell-spelled.ensures.value a.out.now a.pen.count _ refl c.spell-spelled.ensures.out_after in
    let both = pen-all (pen-first a.out.now a.pen (take 3 left) three) _ (last-three left (sym c.exceeds.ensures ∙ c.if-exceeds.false)) in
    record { value = both.0; out_after = both.1 }
