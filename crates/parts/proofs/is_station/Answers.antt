-- One test after the other.
use mathlib.Core.Bool.{not, false}
use mathlib.Core.List.{[], ◌∷◌}
use mathlib.Core.Logic.{⊎_elim}
use mathlib.Core.Path.{◌≡◌, sym, ap, ◌∙◌}
use borrow.Author.Tests.{eq-eqb, ne_eqb}
use Rattle.octets.proofs.Everys.{last-decides}
use Rattle.octets.proofs.Tests.{one-fails}
use Rattle.parts.specs.Parts.{is_station_byte}
use Rattle.parts.proofs.is_station.Goals as goal

none : (c : goal.Else-b-ne45) → is_station_byte c.args.b ≡ false
unfolding is_station_byte
none c = ⊎_elim (λ w. one-fails 1 (_ ∷ _ ∷ _ ∷ []) (ap not (eq-eqb _ _ w.1))) (λ w. one-fails 0 (_ ∷ _ ∷ _ ∷ []) (sym c.is_between.ensures ∙ w)) c.if-b-ne45.either

pub returns-else-b-ne45 : goal.returns-else-b-ne45
returns-else-b-ne45 c = let no = none c in cc

pub returns-then-b-ne45 : goal.returns-then-b-ne45
unfolding is_station_byte
returns-then-b-ne45 c = sym (last-decides (_ ∷ _ ∷ []) _ (sym c.is_between.ensures ∙ c.if-b-ne45.true.0, (ap not (ne_eqb _ _ c.if-b-ne45.true.1), tt)))
