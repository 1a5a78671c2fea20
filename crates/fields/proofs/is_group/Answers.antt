-- The parts between the commas are the group's; where a comma is missing, the part behind it is empty, and so none.
use mathlib.Core.Path.{sym, ◌∙◌}
use native.Mathlib.Omega.{arith}
use lib.ListN.{length-take}
use Rattle.fields.proofs.Groups.{group-no, time-decides, first-in, no-first, no_second, parted, sender-as, identifier-as, sent-as}
use Rattle.fields.proofs.is_group.Goals as goal
use Rattle.fields.proofs.is_group.Goals.{then-is_identity, else-is_identity}

pub returns-then-first-t : goal.returns-then-first-t
returns-then-first-t c = sym (no-first _ _ c.comma-first.ensures c.if-first-t.true)

pub overflow_add-first : goal.overflow_add-first
overflow_add-first c = omega (arith, first-in c.args.t.now _ c.comma-first.ensures)

pub returns-then-second-t : goal.returns-then-second-t
returns-then-second-t c = sym (no_second _ _ c.comma-first.ensures _ c.comma-second.ensures c.if-second-t.true)

pub slice_bounds-is_identity-end : goal.slice_bounds-is_identity-end
slice_bounds-is_identity-end c =
    let g = parted _ _ c.comma-first.ensures c.if-first-t.false _ c.comma-second.ensures c.if-second-t.false in
    simp length-take (omega (arith, g.order, g.inside))

pub slice_bounds-is_identity-end-then-is_identity : goal.slice_bounds-is_identity-end-then-is_identity
slice_bounds-is_identity-end-then-is_identity c =
    let g = parted _ _ c.comma-first.ensures c.if-first-t.false _ c.comma-second.ensures c.if-second-t.false in
    omega (arith, g.order, g.inside)

pub overflow_add-second : goal.overflow_add-second
overflow_add-second c =
    let g = parted _ _ c.comma-first.ensures c.if-first-t.false _ c.comma-second.ensures c.if-second-t.false in
    omega (arith, g.order, g.inside)

pub slice_bounds-instant-count : goal.slice_bounds-instant-count
slice_bounds-instant-count c =
    let g = parted _ _ c.comma-first.ensures c.if-first-t.false _ c.comma-second.ensures c.if-second-t.false in
    omega (arith, g.order, g.inside)

pub slice_bounds-instant-start : goal.slice_bounds-instant-start
slice_bounds-instant-start c =
    let g = parted _ _ c.comma-first.ensures c.if-first-t.false _ c.comma-second.ensures c.if-second-t.false in
    omega (arith, g.order, g.inside)

pub returns-then-is_identity-2 : goal.returns-then-is_identity-2
returns-then-is_identity-2 c =
    let g = parted _ _ c.comma-first.ensures c.if-first-t.false _ c.comma-second.ensures c.if-second-t.false in
    elim c.if-is_identity.branch [
      | then-is_identity w ↦ sym (time-decides _
          (sender-as g c.is_identity.ensures ∙ w.if-is_identity.true)
          (identifier-as g w.is_identity-then-is_identity.ensures ∙ sym w.value-is ∙ c.if-is_identity-2.true)
          ∙ sent-as g _ c.instant.ensures (sym c.is_some.ensures))
      | else-is_identity w ↦ cc
    ]

pub returns-else-is_identity-2 : goal.returns-else-is_identity-2
returns-else-is_identity-2 c =
    let g = parted _ _ c.comma-first.ensures c.if-first-t.false _ c.comma-second.ensures c.if-second-t.false in
    elim c.if-is_identity.branch [
      | then-is_identity w ↦ c.if-is_identity-2.false
          ∙ sym (group-no 1 _ (identifier-as g w.is_identity-then-is_identity.ensures ∙ sym w.value-is ∙ c.if-is_identity-2.false))
      | else-is_identity w ↦ c.if-is_identity-2.false ∙ sym (group-no 0 _ (sender-as g c.is_identity.ensures ∙ w.if-is_identity.false))
    ]
