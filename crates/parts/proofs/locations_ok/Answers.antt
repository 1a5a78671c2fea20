-- One test after the other; the last decides.
use Prim.Native.Nat.{◌-◌}
use mathlib.Core.Logic.{⊎_elim}
use mathlib.Core.List.{[], ◌∷◌}
use mathlib.Core.Path.{sym, ◌∙◌}
use Rattle.std.proofs.lemmas.Grind.{common_steps}
use native.Mathlib.Omega.{arith}
use lib.Seq.{take_all}
use lib.ListN.{length, take, drop, length-drop}
use borrow.Author.Tests.{eq-eqb, ne_eqb}
use Rattle.octets.proofs.Everys.{last-decides}
use Rattle.octets.proofs.Tests.{one-fails, between_is, below-between, above-between}
use Rattle.parts.specs.Parts.{is_location, is_zero, locations_tests, locations_ok}
use Rattle.parts.proofs.Everys.{all-is}
use Rattle.std.proofs.Common.{rules, tests}
use Rattle.std.proofs.lemmas.Iterator.{YieldsList-from_slice}
use Rattle.std.proofs.lemmas.Iterator.Search.{all_from_yields_List}
use Rattle.parts.proofs.locations_ok.Goals.{then-list-eq31, else-list-eq31}
use Rattle.parts.proofs.locations_ok.Goals as goal

pub returns-else-all : goal.returns-else-all
unfolding locations_ok is_location
returns-else-all c =
    let a = c.args in
    let tests = locations_tests a.n a.list.now in
    elim c.if-list-eq31.branch [
      | then-list-eq31 w ↦
          let six = all_from_yields_List is_location _ _ w.all.result w.all.ensures.ran (YieldsList-from_slice (take a.n a.list.now) cc) (λ x b q k. search (rules, tests)) ∙ all-is is_location (take a.n a.list.now) in
          c.if-all.false ∙ sym (one-fails 2 tests (sym six ∙ sym w.value-is ∙ c.if-all.false))
      | else-list-eq31 w ↦
          c.if-all.false ∙ sym (⊎_elim (λ h. one-fails 1 tests (ne_eqb _ _ h.2)) (λ h. ⊎_elim (λ k. one-fails 0 tests (above-between 1 31 _ k.1)) (λ k. one-fails 0 tests (below-between 1 31 _ k)) h) w.if-list-eq31.either)
    ]

pub returns-then-all : goal.returns-then-all
unfolding locations_ok is_location is_zero
returns-then-all c =
    let a = c.args in
    elim c.if-list-eq31.branch [
      | then-list-eq31 w ↦
          let six = all_from_yields_List is_location _ _ w.all.result w.all.ensures.ran (YieldsList-from_slice (take a.n a.list.now) cc) (λ x b q k. search (rules, tests)) ∙ all-is is_location (take a.n a.list.now) in
          let whole = take_all (length a.list.now - a.n) (drop a.n a.list.now) (omega (arith, length-drop a.n a.list.now)) in
          let rest = all_from_yields_List is_zero _ _ c.all-then-all.result c.all-then-all.ensures.ran (YieldsList-from_slice (drop a.n a.list.now) (c.iter-then-all.ensures.rest ∙ whole)) (λ x b q k. search (rules, tests)) ∙ all-is is_zero (drop a.n a.list.now) in
          let t = w.if-list-eq31.true in
          rest ∙ sym (last-decides (_ ∷ _ ∷ _ ∷ []) _ (between_is 1 31 _ t.0 t.1, (eq-eqb _ _ t.2, (sym six ∙ sym w.value-is ∙ c.if-all.true, tt))))
      | else-list-eq31 w ↦ grind (arith, common_steps)
    ]
