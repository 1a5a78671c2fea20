-- The value from its first character on, behind the space.
use Prim.Native.Nat.{ℕ, ◌+◌}
use mathlib.Core.List.{List, ◌∷◌}
use mathlib.Core.Path.{refl, ap}
use native.Mathlib.Omega.{arith}
use lib.ListN.{length, take}
use Rattle.characters.specs.Utf8.{utf8}
use Rattle.values.specs.Value.{value_at}
use Rattle.wording.proofs.Pens.{pen-next, pen-all, room_for, room-past, space-put}
use Rattle.wording.proofs.Spells.{from-lead, count-is, goes-from, spelled-put}
use Rattle.wording.proofs.put_spaced.Goals as goal

pub spell-spelled-requires : goal.spell-spelled-requires
spell-spelled-requires c =
    let a = c.args in
    let w = take a.count (value_at a.s.now a.p) in
    let spaced = space-put a.out.now a.pen c.put_byte.ensures in
    let left = room-past c.requires spaced (length w) (omega arith) in
    omega (arith, room_for left w (omega arith), ap (λ (v : List ℕ). length (utf8 (take a.count v))) (from-lead _ _ _ c.lead.ensures))

pub overflow_add-result-2 : goal.overflow_add-result-2
overflow_add-result-2 c =
    let a = c.args in
    omega (arith, c.requires.short, count-is _ _ _ _ _ (value_at a.s.now a.p) (from-lead _ _ _ c.lead.ensures) c.spell-spelled.ensures.value)

pub returns : goal.returns
returns c =
    let a = c.args in
    let v = value_at a.s.now a.p in
    let from = from-lead _ _ _ c.lead.ensures in
    let spaced = space-put a.out.now a.pen c.put_byte.ensures in
    let put = spelled-put _ _ _ _ _ v from c.spell-spelled.ensures.value _ (a.pen.count + 1) _ refl c.spell-spelled.ensures.out_after in
    let all = pen-all (pen-next spaced (take a.count v) put) (32 ∷ take a.count v) refl in
    record { pen_value = all.0; next_value = goes-from _ _ _ _ _ v from c.spell-spelled.ensures.value; out_after = all.1 }
