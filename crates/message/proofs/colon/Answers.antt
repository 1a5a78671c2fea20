-- What is passed is what stands before the first colon of the name.
use Rattle.std.proofs.Common.{◌+◌, ◌-◌, ℕ, eqb, not, ap, sym, ◌∙◌, rules, tests}
use Rattle.std.proofs.lemmas.Iterator.{YieldsList-from_slice}
use Rattle.std.proofs.lemmas.Iterator.Consumers.{count_from_yields_List}
use Rattle.std.proofs.lemmas.Iterator.Search.{YieldsList-from_take_while}
use Rattle.std.proofs.lemmas.List.Folds.{length-prefix_len}
use Rattle.octets.specs.Bytes.{part}
use Rattle.message.proofs.Roots.{colon_is}
use Rattle.message.proofs.colon.Goals as goal

pub returns : goal.returns
returns c =
    let a = c.args in
    let w = c.take_while.ensures in
    let name = part a.s.now a.from (a.to - a.from) in
    ap (λ (n : ℕ). a.from + n)
    (count_from_yields_List c.take_while.result _ c.count.ensures.ran
    (YieldsList-from_take_while _ (λ b. not (eqb b 58)) (YieldsList-from_slice name cc) w.closure w.done (λ x b q k. search (rules, tests)))
    ∙ length-prefix_len (λ b. not (eqb b 58)) name)
    ∙ sym (colon_is a.s.now a.to a.from (search rules) (search rules))
