-- Where zeros stand behind the first zero byte, what stands before it is read.
use mathlib.Core.Path.{◌∙◌}
use native.Mathlib.Omega.{arith}
use Rattle.records.proofs.Judging.{inside, length-front, body-none, body-some}
use Rattle.records.proofs.header_in.Goals as goal

pub slice_bounds-are_zeros-count : goal.slice_bounds-are_zeros-count
slice_bounds-are_zeros-count c = inside _ _ c.filled-n.ensures

pub slice_bounds-are_zeros-start : goal.slice_bounds-are_zeros-start
slice_bounds-are_zeros-start c = omega (arith, inside _ _ c.filled-n.ensures)

pub returns-then-not-are_zeros : goal.returns-then-not-are_zeros
returns-then-not-are_zeros c = body-none _ _ c.filled-n.ensures _ c.are_zeros.ensures c.if-not-are_zeros.true

pub slice_bounds-read_body-end : goal.slice_bounds-read_body-end
slice_bounds-read_body-end c = length-front _ _ c.filled-n.ensures

pub returns : goal.returns
returns c = c.then_some.ensures ∙ body-some _ _ c.filled-n.ensures _ c.are_zeros.ensures c.if-not-are_zeros.false _ c.read_body-read.ensures
