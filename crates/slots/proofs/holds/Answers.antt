-- Record by record, as the closure compares them.
use Rattle.std.proofs.Common.{◌∙◌, rules, tests}
use Rattle.std.proofs.lemmas.Iterator.{YieldsList-from_slice}
use Rattle.std.proofs.lemmas.Iterator.Search.{any_from_yields_List}
use Rattle.std.specs.Ordering.{is_eq}
use Rattle.octets.specs.Order.{cmp}
use Rattle.slots.proofs.Records.{has-any}
use Rattle.slots.specs.Slots.{recs}
use Rattle.slots.proofs.holds.Goals as goal

pub returns : goal.returns
returns c =
    let l = recs c.args.n c.args.s.now in
    any_from_yields_List (λ x. is_eq (cmp c.args.r.now x)) _ _ _ c.any.ensures.ran (YieldsList-from_slice l cc) (λ x b q k. search (rules, tests)) ∙ has-any c.args.r.now l
