-- The period lies below, in, or above one of the two ranges.
use mathlib.Core.Bool.{false}
use mathlib.Core.Logic.{⊎_elim}
use mathlib.Core.Path.{◌≡◌, sym, ◌∙◌}
use borrow.Author.Tests.{lt-leb}
use Rattle.parts.proofs.Periods.{period-low, period-quarter, period-gap, period-half, period-over}
use Rattle.parts.specs.Parts.{is_period}
use Rattle.parts.proofs.is_period.Goals as goal

pub returns-then-m-ge15 : goal.returns-then-m-ge15
returns-then-m-ge15 c = sym (period-quarter _ c.if-m-ge15.true c.if-m-le45.true)

pub returns-else-m-ge15 : goal.returns-else-m-ge15
returns-else-m-ge15 c = lt-leb _ _ c.if-m-ge15.false ∙ sym (period-low _ c.if-m-ge15.false)

pub returns-then-m-le5970 : goal.returns-then-m-le5970
returns-then-m-le5970 c = sym (period-half _ c.if-m-le5970.true.0 c.if-m-le5970.true.1)

none : (c : goal.Else-m-le5970) → is_period c.args.m ≡ false
none c = ⊎_elim (λ w. period-over _ w.1) (λ w. period-gap _ c.if-m-le45.false w) c.if-m-le5970.either

pub returns-else-m-le5970 : goal.returns-else-m-le5970
returns-else-m-le5970 c = let no = none c in cc
