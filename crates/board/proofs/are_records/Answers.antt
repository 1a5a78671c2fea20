-- Record by record, as the closure tests them.
use Rattle.std.proofs.Common.{◌∙◌, rules, tests}
use Rattle.std.proofs.lemmas.Iterator.{YieldsList-from_slice}
use Rattle.std.proofs.lemmas.Iterator.Search.{all_from_yields_List}
use Rattle.records.specs.Record.{record_ok}
use Rattle.records.proofs.ZeroFill.{every-all}
use Rattle.slots.specs.Slots.{recs}
use Rattle.board.proofs.are_records.Goals as goal

pub returns : goal.returns
returns c =
    let l = recs c.args.n c.args.s.now in
    all_from_yields_List record_ok _ _ _ c.all.ensures.ran (YieldsList-from_slice l cc) (λ x b q k. search (rules, tests)) ∙ every-all record_ok l
