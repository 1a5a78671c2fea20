-- Characters of a value that were put from a place in it on.
--     after-rest      from the place behind n characters the value goes on without them
--     spelled-put     at most g of them, behind a pen
--     goes-from       what is left of the value behind them
use Prim.Native.Nat.{ℕ, zero, suc, ◌+◌}
use mathlib.Core.List.{List}
use mathlib.Core.Path.{◌≡◌, refl, sym, ap, ◌∙◌}
use lib.ListN.{length, take, drop}
use lib.Seq.{sets}
use Rattle.characters.specs.Utf8.{utf8}
use Rattle.values.specs.Value.{value_at}
use Rattle.values.specs.WorkingSteps.{rest_at, lead_at, step_at, onward, place_after, spelled_of}
use Rattle.values.specs.declared.Spelled.{Spelled}
use Rattle.std.specs.Prelude.{Option, Some, None}
use Rattle.values.proofs.Steps.{value-start, step-more, step-done}
use Rattle.wording.specs.declared.Pen.{Pen}
use Rattle.wording.proofs.Pens.{PenPut, pen-made}

pub after-rest : (s : List ℕ) (n i : ℕ) → rest_at s (place_after s n i) ≡ drop n (rest_at s i)
unfolding place_after onward
after-rest s zero i = refl
after-rest s (suc n) i = go (step_at s i) refl (after-rest s n)
  where
    go : (g : Option (ℕ × ℕ)) → step_at s i ≡ g → ((j : ℕ) → rest_at s (place_after s n j) ≡ drop n (rest_at s j)) → rest_at s (onward i g (place_after s n)) ≡ drop (suc n) (rest_at s i)
    go (Some (c, j)) e f = f j ∙ sym (ap (drop (suc n)) (step-more s i c j e).0)
    go None e f = step-done s i e ∙ sym (ap (drop (suc n)) (step-done s i e))

-- what was spelled, part by part; v is what the value has left at the place i
module _ (s : List ℕ) (i g to : ℕ) (r : Spelled) (v : List ℕ) (from : rest_at s i ≡ v) (e : r ≡ spelled_of s i g to) where
  pub count-is : r.count ≡ length (take g v)
  unfolding spelled_of
  count-is = ap (λ (x : Spelled). x.count) e ∙ ap (λ (x : List ℕ). length (take g x)) from

  end_is : r.end ≡ to + length (utf8 (take g v))
  unfolding spelled_of
  end_is = ap (λ (x : Spelled). x.end) e ∙ ap (λ (x : List ℕ). to + length (utf8 (take g x))) from

  pub goes-from : rest_at s r.next ≡ drop g v
  unfolding spelled_of
  goes-from = ap (λ (x : Spelled). rest_at s x.next) e ∙ after-rest s g i ∙ ap (drop g) from

  -- n characters before them, and k with them
  pub spelled-put : (d : List ℕ) {x : List ℕ} (n k : ℕ) → k ≡ n + r.count → x ≡ sets d to (utf8 (take g (rest_at s i)))
      → PenPut d (record { at = to; count = n }) (take g v) x (record { at = r.end; count = k })
  spelled-put d n k q h =
      let pen : Pen = record { at = to; count = n } in
      (pen-made pen (take g v) r.end k end_is (q ∙ ap (λ (c : ℕ). n + c) count-is), h ∙ ap (λ (y : List ℕ). sets d to (utf8 (take g y))) from)

-- from its first character on
pub from-lead : (s : List ℕ) (p first : ℕ) → first ≡ lead_at s p → rest_at s first ≡ value_at s p
from-lead s p first e = ap (rest_at s) e ∙ value-start s p
