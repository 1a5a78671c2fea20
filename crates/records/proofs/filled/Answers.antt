-- What is taken is what stands before the first zero byte.
use Rattle.std.proofs.Common.{length, eqb, not, ap, ◌∙◌, rules, tests}
use Rattle.std.proofs.lemmas.Iterator.{YieldsList-from_slice}
use Rattle.std.proofs.lemmas.Iterator.Consumers.{count_from_yields_List}
use Rattle.std.proofs.lemmas.Iterator.Search.{YieldsList-from_take_while}
use Rattle.records.proofs.ZeroFill.{filled-taken}
use Rattle.records.proofs.filled.Goals as goal

pub returns : goal.returns
returns c =
    let f = c.args.field.now in
    let t = c.take_while.ensures in
    count_from_yields_List c.take_while.result _ c.count.ensures.ran
    (YieldsList-from_take_while _ (λ b. not (eqb b 0)) (YieldsList-from_slice f cc) t.closure t.done (λ x b q k. search (rules, tests)))
    ∙ ap length (filled-taken f)
