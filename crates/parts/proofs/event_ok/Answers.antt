use mathlib.Core.List.{[], ◌∷◌}
use mathlib.Core.Path.{sym, ◌∙◌}
use borrow.Author.Tests.{eq-eqb, ne_eqb}
use Rattle.octets.proofs.Everys.{last-decides}
use Rattle.octets.proofs.Tests.{one-fails}
use Rattle.octets.specs.Bytes.{is_capital}
use Rattle.parts.specs.Parts.{event_tests, event_ok}
use Rattle.parts.proofs.Everys.{all-is}
use Rattle.std.proofs.Common.{rules, tests}
use Rattle.std.proofs.lemmas.Iterator.{YieldsList-from_slice}
use Rattle.std.proofs.lemmas.Iterator.Search.{all_from_yields_List}
use Rattle.parts.proofs.event_ok.Goals as goal

pub returns-then-t-eq3 : goal.returns-then-t-eq3
unfolding event_ok
returns-then-t-eq3 c =
    let t = c.args.t.now in
    all_from_yields_List is_capital _ _ c.all.result c.all.ensures.ran (YieldsList-from_slice t cc) (λ x b q k. search (rules, tests))
    ∙ all-is is_capital t ∙ sym (last-decides (_ ∷ []) _ (eq-eqb _ _ c.if-t-eq3.true, tt))

pub returns-else-t-eq3 : goal.returns-else-t-eq3
unfolding event_ok
returns-else-t-eq3 c = let no = ne_eqb _ _ c.if-t-eq3.false in no ∙ sym (one-fails 0 (event_tests c.args.t.now) no)
