use Prim.Native.Nat.{ℕ, ◌+◌, ◌-◌, ◌*◌}
use mathlib.Core.List.{[], ◌∷◌}
use mathlib.Core.Path.{◌≡◌, refl, sym, ap, ap₂, ◌∙◌}
use native.Mathlib.Nat.{sub-zero}
use native.Mathlib.Omega.{arith}
use lib.ListN.{length-set}
use lib.Seq.{sets}
use Rattle.std.specs.Prelude.{Some}
use borrow.Author.Tests.{eq-eqb, ne_eqb}
use Rattle.header.proofs.Locations.{form-cut, locations-cut, form-done, locations-last, locations-refused, locations-taken}
use Rattle.header.specs.Body.{locations_form, locations_of}
use Rattle.octets.proofs.Everys.{last-decides}
use Rattle.octets.proofs.Numbers.{num-value, num-none}
use Rattle.octets.proofs.Runs.{sets_more}
use Rattle.octets.proofs.Tests.{one-fails}
use Rattle.parts.specs.Parts.{padded}
use Rattle.header.proofs.locations_of.Goals as goal

pub loop-k-init : goal.loop-k-init
loop-k-init c =
    let a = c.args in
    let from : a.at + 7 * 0 ≡ a.at = omega arith in
    record {
      long = refl;
      form = ap₂ (λ (m i : ℕ). locations_form m a.s.now i) (sub-zero a.n) from;
      list = ap₂ (λ (m i : ℕ). padded (locations_of m a.s.now i)) (sub-zero a.n) from;
    }

pub returns-then-s-dash-ne45 : goal.returns-then-s-dash-ne45
returns-then-s-dash-ne45 c =
    let a = c.args in
    let l = c.loop-k in
    sym (locations-refused _ _ _ (sym l.invariant.form ∙ form-cut a.n l.k a.s.now a.at c.loop-k-test.true ∙ one-fails 0 (_ ∷ _ ∷ _ ∷ []) (ne_eqb _ _ c.if-s-dash-ne45.true)))

pub returns-in_err-list : goal.returns-in_err-list
returns-in_err-list c =
    let a = c.args in
    let l = c.loop-k in
    c.from_residual.ensures
    ∙ sym (locations-refused _ _ _ (sym l.invariant.form ∙ form-cut a.n l.k a.s.now a.at c.loop-k-test.true ∙ one-fails 1 (_ ∷ _ ∷ _ ∷ []) (num-none _ (sym c.number.ensures ∙ c.in_err-list.was))))

pub loop-k-preserved : goal.loop-k-preserved
loop-k-preserved c =
    let a = c.args in
    let l = c.loop-k in
    let k = c.loop-k-test.true in
    let v = num-value _ _ (sym c.number.ensures ∙ c.in_ok-list.was) in
    let form = sym (last-decides (_ ∷ _ ∷ []) _ (eq-eqb _ _ c.if-s-dash-ne45.false, (v.0, tt))) ∙ sym (form-cut a.n l.k a.s.now a.at k) ∙ l.invariant.form in
    let list = ap (sets l.list l.k) (sym (locations-cut a.n l.k a.s.now a.at k)) ∙ l.invariant.list in
    record {
      long = simp length-set l.invariant.long;
      form = form;
      list = sets_more l.list l.k _ _ (locations_of (a.n - (l.k + 1)) a.s.now (a.at + 7 * (l.k + 1))) _ list v.1;
    }

pub returns : goal.returns
returns c =
    let a = c.args in
    let l = c.loop-k in
    let yes = sym l.invariant.form ∙ form-done a.n l.k _ _ c.loop-k-test.false in
    let e = ap (sets l.list l.k) (sym (locations-last a.n l.k _ _ c.loop-k-test.false)) ∙ l.invariant.list in
    ap Some e ∙ sym (locations-taken _ _ _ yes)
