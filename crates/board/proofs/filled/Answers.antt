-- What is taken is what stands before the first empty record.
use Rattle.std.proofs.Common.{eqb, not, ◌/◌, length, ◌∙◌, rules, tests}
use Rattle.std.proofs.lemmas.Iterator.{YieldsList-from_slice}
use Rattle.std.proofs.lemmas.Iterator.Consumers.{count_from_yields_List}
use Rattle.std.proofs.lemmas.Iterator.Search.{YieldsList-from_take_while}
use Rattle.std.specs.Simd.{first_chunks}
use Rattle.records.specs.Record.{kind}
use Rattle.board.proofs.Boards.{filled-counted}
use Rattle.board.proofs.filled.Goals as goal

pub returns : goal.returns
returns c =
    let s = c.args.s.now in
    let t = c.take_while.ensures in
    count_from_yields_List c.take_while.result _ c.count.ensures.ran
    (YieldsList-from_take_while _ (λ r. not (eqb (kind r) 0)) (YieldsList-from_slice (first_chunks 384 (length s / 384) s) cc) t.closure t.done (λ x b q k. search (rules, tests)))
    ∙ filled-counted s
