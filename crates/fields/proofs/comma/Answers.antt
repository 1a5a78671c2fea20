-- What is passed is what stands before the first comma.
use Rattle.std.proofs.Common.{◌+◌, ℕ, length, drop, eqb, not, ap, ◌∙◌, rules, tests}
use Rattle.std.proofs.lemmas.Iterator.{YieldsList-from_slice}
use Rattle.std.proofs.lemmas.Iterator.Adapters.{YieldsList-from_skip}
use Rattle.std.proofs.lemmas.Iterator.Consumers.{count_from_yields_List}
use Rattle.std.proofs.lemmas.Iterator.Search.{YieldsList-from_take_while}
use Rattle.fields.proofs.Partings.{up_to-taken}
use Rattle.fields.proofs.comma.Goals as goal

pub returns : goal.returns
returns c =
    let a = c.args in
    let w = c.take_while.ensures in
    ap (λ (n : ℕ). a.at + n)
    (count_from_yields_List c.take_while.result _ c.count.ensures.ran
    (YieldsList-from_take_while _ (λ b. not (eqb b 44)) (YieldsList-from_skip a.at (YieldsList-from_slice a.t.now cc) cc) w.closure w.done (λ x b q k. search (rules, tests)))
    ∙ ap length (up_to-taken 44 (drop a.at a.t.now)))
