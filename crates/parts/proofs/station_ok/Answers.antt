use mathlib.Core.List.{[], ◌∷◌}
use mathlib.Core.Path.{sym, ◌∙◌}
use borrow.Author.Tests.{eq-eqb, ne_eqb}
use Rattle.octets.proofs.Everys.{last-decides}
use Rattle.octets.proofs.Tests.{one-fails}
use Rattle.parts.specs.Parts.{is_station_byte, station_tests, station_ok}
use Rattle.parts.proofs.Everys.{all-is}
use Rattle.std.proofs.Common.{rules, tests}
use Rattle.std.proofs.lemmas.Iterator.{YieldsList-from_slice}
use Rattle.std.proofs.lemmas.Iterator.Search.{all_from_yields_List}
use Rattle.parts.proofs.station_ok.Goals as goal

pub returns-then-t-eq8 : goal.returns-then-t-eq8
unfolding station_ok
returns-then-t-eq8 c =
    let t = c.args.t.now in
    all_from_yields_List is_station_byte _ _ c.all.result c.all.ensures.ran (YieldsList-from_slice t cc) (λ x b q k. search (rules, tests))
    ∙ all-is is_station_byte t ∙ sym (last-decides (_ ∷ []) _ (eq-eqb _ _ c.if-t-eq8.true, tt))

pub returns-else-t-eq8 : goal.returns-else-t-eq8
unfolding station_ok
returns-else-t-eq8 c = let no = ne_eqb _ _ c.if-t-eq8.false in no ∙ sym (one-fails 0 (station_tests c.args.t.now) no)
