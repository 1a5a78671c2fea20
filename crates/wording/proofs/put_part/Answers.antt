-- An empty value puts nothing; of another a space and all but three characters, and then its end.
use Prim.Native.Nat.{ℕ}
use mathlib.Core.List.{List, ◌∷◌, ◌++◌}
use mathlib.Core.Path.{sym, ap, ◌∙◌}
use native.Mathlib.Omega.{arith}
use lib.ListN.{length, take, drop, length-append}
use Rattle.values.specs.Value.{value_at}
use Rattle.wording.specs.WorkingPen.{last_of}
use Rattle.wording.proofs.Cuts.{none-long, part_none, part-some}
use Rattle.wording.proofs.Pens.{pen-none, pen-first, pen-next, pen-all, room_of_lem, room-past}
use Rattle.wording.proofs.put_part.Goals as goal

pub returns-then-is_empty : goal.returns-then-is_empty
returns-then-is_empty c =
    let a = c.args in
    let v = value_at a.s.now a.p in
    let both = pen-all (pen-none a.out.now a.pen) _ (part_none a.allotment v (none-long v (sym c.is_empty.ensures ∙ c.if-is_empty.true))) in
    record { value = both.0; out_after = both.1 }

pub put_spaced-front-requires : goal.put_spaced-front-requires
put_spaced-front-requires c =
    let v = value_at c.args.s.now c.args.p in
    let room = c.requires.room in
    let two = part-some c.args.allotment _ v c.requires.le_allotment (sym c.is_empty.ensures ∙ c.if-is_empty.false) c.saturating_sub.ensures in
    room_of_lem room _ (omega (arith, room.short, ap length two, length-append (32 ∷ take c.saturating_sub.result v) (last_of (drop c.saturating_sub.result v))))

pub put_last-requires : goal.put_last-requires
put_last-requires c =
    let a = c.args in
    let v = value_at a.s.now a.p in
    let n = c.saturating_sub.result in
    let two = part-some a.allotment _ v c.requires.le_allotment (sym c.is_empty.ensures ∙ c.if-is_empty.false) c.saturating_sub.ensures in
    let put = pen-first a.out.now a.pen (32 ∷ take n v) (c.put_spaced-front.ensures.pen_value, c.put_spaced-front.ensures.out_after) in
    room-past c.requires.room put _
    (omega (arith, ap length two, length-append (32 ∷ take n v) (last_of (drop n v)), ap (λ (w : List ℕ). length (last_of w)) c.put_spaced-front.ensures.next_value))

pub returns : goal.returns
returns c =
    let a = c.args in
    let v = value_at a.s.now a.p in
    let n = c.saturating_sub.result in
    let two = part-some a.allotment _ v c.requires.le_allotment (sym c.is_empty.ensures ∙ c.if-is_empty.false) c.saturating_sub.ensures in
    let put = pen-first a.out.now a.pen (32 ∷ take n v) (c.put_spaced-front.ensures.pen_value, c.put_spaced-front.ensures.out_after) in
    let both = pen-all (pen-next put _ (c.put_last.ensures.value, c.put_last.ensures.out_after)) _
    (two ∙ ap (λ (w : List ℕ). (32 ∷ take n v) ++ last_of w) (sym c.put_spaced-front.ensures.next_value)) in
    record { value = both.0; out_after = both.1 }
