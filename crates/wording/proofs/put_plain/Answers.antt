-- Where the text is full or the value empty nothing is put; else a space and what is left of 1,800.
use Prim.Native.Nat.{◌-◌}
use mathlib.Core.List.{[], ◌∷◌}
use mathlib.Core.Path.{◌≡◌, sym, ◌∙◌}
use native.Mathlib.Omega.{arith}
use lib.ListN.{take, length-take}
use Rattle.values.specs.Value.{value_at}
use Rattle.wording.specs.Text.{most, after_space}
use Rattle.wording.proofs.Cuts.{spaced-full, spaced-none, spaced-some}
use Rattle.wording.proofs.Pens.{pen-none, pen-first, pen-all, room_of_lem}
use Rattle.wording.proofs.put_plain.Goals.{then-pen-eq-MOST-via-then-pen-eq-MOST, then-pen-eq-MOST-via-else-pen-eq-MOST+then-is_empty}
use Rattle.wording.proofs.put_plain.Goals as goal

none : (c : goal.Joined-then-pen-eq-MOST) → let a = c.args in take (most - a.pen.count) (after_space (value_at a.s.now a.p)) ≡ []
none c =
    let a = c.args in
    let v = value_at a.s.now a.p in
    elim c.then-pen-eq-MOST.branch [
      | then-pen-eq-MOST-via-then-pen-eq-MOST w ↦ spaced-full v a.pen.count w.if-pen-eq-MOST.true
      | then-pen-eq-MOST-via-else-pen-eq-MOST+then-is_empty w ↦ spaced-none v (sym w.is_empty.ensures ∙ w.if-is_empty.true) (1800 - a.pen.count)
    ]

pub returns-then-pen-eq-MOST : goal.returns-then-pen-eq-MOST
returns-then-pen-eq-MOST c =
    let both = pen-all (pen-none c.args.out.now c.args.pen) _ (none c) in
    record { value = both.0; out_after = both.1 }

pub put_spaced-requires : goal.put_spaced-requires
put_spaced-requires c =
    let a = c.args in
    room_of_lem c.requires _ (omega (arith, c.requires.short, c.if-pen-eq-MOST.false, length-take (1799 - a.pen.count) (value_at a.s.now a.p)))

pub returns : goal.returns
returns c =
    let a = c.args in
    let n = a.pen.count in
    let v = value_at a.s.now a.p in
    let both = pen-all (pen-first a.out.now a.pen (32 ∷ take (1799 - n) v) (c.put_spaced.ensures.pen_value, c.put_spaced.ensures.out_after)) _
    (spaced-some v (sym c.is_empty.ensures ∙ c.if-is_empty.false) n (omega (arith, c.requires.short, c.if-pen-eq-MOST.false))) in
    record { value = both.0; out_after = both.1 }
