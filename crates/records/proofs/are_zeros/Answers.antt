-- Byte by byte, as the closure tests them.
use Rattle.std.proofs.Common.{eqb, ◌∙◌, rules, tests}
use Rattle.std.proofs.lemmas.Iterator.{YieldsList-from_slice}
use Rattle.std.proofs.lemmas.Iterator.Search.{all_from_yields_List}
use Rattle.records.proofs.ZeroFill.{zeros-all}
use Rattle.records.proofs.are_zeros.Goals as goal

pub returns : goal.returns
returns c =
    let f = c.args.f.now in
    all_from_yields_List (λ b. eqb b 0) _ _ _ c.all.ensures.ran (YieldsList-from_slice f cc) (λ x b q k. search (rules, tests)) ∙ zeros-all f
