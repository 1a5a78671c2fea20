-- Below 33 there is no location; else the count is compared with its bounds, and the length with the count.
use mathlib.Core.List.{[], ◌∷◌}
use mathlib.Core.Path.{sym, ◌∙◌}
use native.Mathlib.Omega.{arith}
use borrow.Author.Tests.{lt-leb}
use Rattle.header.specs.Body.{count_in, length_tests, length_form}
use Rattle.octets.proofs.Everys.{last-decides}
use Rattle.octets.proofs.Tests.{one-fails, between_is, below-between, above-between}
use Rattle.header.proofs.length_ok.Goals as goal

pub returns-then-n-lt33 : goal.returns-then-n-lt33
unfolding length_form
returns-then-n-lt33 c = sym (one-fails 0 (length_tests c.args.n) (below-between 1 31 (count_in c.args.n) (omega arith)))

pub returns-else-count-le31 : goal.returns-else-count-le31
unfolding length_form
returns-else-count-le31 c = lt-leb _ _ c.if-count-le31.false ∙ sym (one-fails 0 (length_tests c.args.n) (above-between 1 31 _ c.if-count-le31.false))

pub returns-then-count-le31 : goal.returns-then-count-le31
unfolding length_form
returns-then-count-le31 c = sym (last-decides (_ ∷ []) _ (between_is 1 31 (count_in c.args.n) (omega arith) c.if-count-le31.true, tt))
