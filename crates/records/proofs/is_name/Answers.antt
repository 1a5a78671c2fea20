-- What stands before the first zero byte is judged, then what stands behind it.
use mathlib.Core.Path.{sym, ◌∙◌}
use native.Mathlib.Omega.{arith}
use Rattle.fields.specs.Fields.{identity_ok}
use Rattle.records.proofs.Judging.{inside, length-front, value-bad, rest-decides}
use Rattle.records.proofs.is_name.Goals as goal

pub slice_bounds-is_identity-end : goal.slice_bounds-is_identity-end
slice_bounds-is_identity-end c = length-front _ _ c.filled-n.ensures

pub slice_bounds-are_zeros-count : goal.slice_bounds-are_zeros-count
slice_bounds-are_zeros-count c = inside _ _ c.filled-n.ensures

pub slice_bounds-are_zeros-start : goal.slice_bounds-are_zeros-start
slice_bounds-are_zeros-start c = omega (arith, inside _ _ c.filled-n.ensures)

pub returns-then-is_identity : goal.returns-then-is_identity
returns-then-is_identity c = rest-decides _ _ c.filled-n.ensures identity_ok (sym c.is_identity.ensures ∙ c.if-is_identity.true) _ c.are_zeros.ensures

pub returns-else-is_identity : goal.returns-else-is_identity
returns-else-is_identity c = c.if-is_identity.false ∙ sym (value-bad _ _ c.filled-n.ensures identity_ok (sym c.is_identity.ensures ∙ c.if-is_identity.false))
