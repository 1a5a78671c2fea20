-- Description may take the greater of what instruction leaves and one half, instruction what is left; these are the allotments.
use Prim.Native.Nat.{ℕ, ◌+◌, ◌-◌, ◌≤◌, ◌<◌}
use mathlib.Core.List.{List, ◌++◌, append-nil}
use mathlib.Core.Path.{◌≡◌, refl, sym, ap, ◌∙◌}
use native.Mathlib.Omega.{arith}
use lib.ListN.{length}
use Rattle.values.specs.Value.{value_at}
use Rattle.wording.proofs.Allotments.{given-ge, description-room, parts-short, instruction-begins, instruction-fair, instruction-room}
use Rattle.wording.proofs.Cuts.{part, part_none}
use Rattle.wording.proofs.Pens.{pen-count, pen-first, pen-next, pen-all, room_of_lem, room-past}
use Rattle.wording.specs.WorkingGiven.{given_to}
use Rattle.wording.proofs.put_parts.Goals as goal

pub put_part-described-requires : goal.put_part-described-requires
put_part-described-requires c =
    let a = c.args in
    let n = a.pen.count in
    let d = value_at a.s.now a.description in
    let i = value_at a.s.now a.instruction in
    let few : n ≤ 1792 = omega (arith, c.requires.short) in
    let takes = c.given-allotment.ensures ∙ ap (given_to n) c.size-size.ensures in
    record { le_allotment = (λ l. rw takes (given-ge n (length i) few)); room = room_of_lem c.requires _ (description-room n d i few c.given-allotment.result _ takes refl) }

pub returns-then-size-eq0 : goal.returns-then-size-eq0
returns-then-size-eq0 c =
    let a = c.args in
    let n = a.pen.count in
    let d = value_at a.s.now a.description in
    let i = value_at a.s.now a.instruction in
    let few : n ≤ 1792 = omega (arith, c.requires.short) in
    let takes = c.given-allotment.ensures ∙ ap (given_to n) c.size-size.ensures in
    let one = part c.given-allotment.result d in
    let ends = pen-count a.pen one c.put_part-described.ensures.value in
    let none : length i ≡ 0 = sym c.size-size.ensures ∙ c.if-size-eq0.true in
    let put = pen-first a.out.now a.pen one (c.put_part-described.ensures.value, c.put_part-described.ensures.out_after) in
    let both = pen-all put _ (parts-short n d i few c.given-allotment.result _ takes ends ∙ ap (λ (x : List ℕ). one ++ x) (part_none (1799 - c.put_part-described.result.count) i none) ∙ append-nil one) in
    record { value = both.0; out_after = both.1 }

pub overflow_sub-left : goal.overflow_sub-left
overflow_sub-left c =
    let a = c.args in
    let n = a.pen.count in
    let d = value_at a.s.now a.description in
    let i = value_at a.s.now a.instruction in
    let few : n ≤ 1792 = omega (arith, c.requires.short) in
    let takes = c.given-allotment.ensures ∙ ap (given_to n) c.size-size.ensures in
    let ends = pen-count a.pen (part c.given-allotment.result d) c.put_part-described.ensures.value in
    let some : 0 < length i = omega (arith, c.if-size-eq0.false, c.size-size.ensures) in
    instruction-begins n d i few c.given-allotment.result _ takes ends some

pub put_part-requires : goal.put_part-requires
put_part-requires c =
    let a = c.args in
    let n = a.pen.count in
    let d = value_at a.s.now a.description in
    let i = value_at a.s.now a.instruction in
    let few : n ≤ 1792 = omega (arith, c.requires.short) in
    let takes = c.given-allotment.ensures ∙ ap (given_to n) c.size-size.ensures in
    let one = part c.given-allotment.result d in
    let ends = pen-count a.pen one c.put_part-described.ensures.value in
    let some : 0 < length i = omega (arith, c.if-size-eq0.false, c.size-size.ensures) in
    let e = c.put_part-described.result.count in
    let fits = instruction-room n d i few c.given-allotment.result e takes ends some in
    let put = pen-first a.out.now a.pen one (c.put_part-described.ensures.value, c.put_part-described.ensures.out_after) in
    let room = room_of_lem c.requires (length one + length (part (1799 - e) i)) (omega (arith, fits, ends)) in
    record { le_allotment = instruction-fair n d i few c.given-allotment.result e takes ends some; room = room-past room put _ (omega arith) }

pub returns : goal.returns
returns c =
    let a = c.args in
    let n = a.pen.count in
    let d = value_at a.s.now a.description in
    let i = value_at a.s.now a.instruction in
    let few : n ≤ 1792 = omega (arith, c.requires.short) in
    let takes = c.given-allotment.ensures ∙ ap (given_to n) c.size-size.ensures in
    let one = part c.given-allotment.result d in
    let ends = pen-count a.pen one c.put_part-described.ensures.value in
    let put = pen-first a.out.now a.pen one (c.put_part-described.ensures.value, c.put_part-described.ensures.out_after) in
    let both = pen-all (pen-next put (part (1799 - c.put_part-described.result.count) i) (c.put_part.ensures.value, c.put_part.ensures.out_after)) _ (parts-short n d i few c.given-allotment.result _ takes ends) in
    record { value = both.0; out_after = both.1 }
