use mathlib.Core.Path.{sym, ◌∙◌}
use borrow.Author.Rules.{rules}
use Rattle.octets.specs.Bytes.{every, between}
use Rattle.octets.proofs.Numbers.{ranged-bad, ranged-read}
use Rattle.octets.proofs.ranged.Goals as goal

pub returns-in_err-v : goal.returns-in_err-v
returns-in_err-v c =
    c.from_residual.ensures ∙ sym (ranged-bad _ _ _ (sym c.number.ensures ∙ c.in_err-v.was))

pub returns : goal.returns
unfolding every between
returns c =
    c.then_some.ensures ∙ ranged-read _ _ _ _ _ (sym c.number.ensures ∙ c.in_ok-v.was) (search rules)
