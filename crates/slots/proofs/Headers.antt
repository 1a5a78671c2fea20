-- Headers with their years, compared by the headers alone as far as these tell: front_less, fronts-decide, headers-then, fronts-differ.
use Prim.Native.Nat.{ℕ}
use mathlib.Core.Bool.{false, true≢false}
use mathlib.Core.Path.{◌≡◌, refl, sym, ap, ap₂, ◌∙◌}
use mathlib.Core.List.{List, [], ◌++◌, append-nil}
use native.Mathlib.Omega.{arith}
use lib.ListN.{length, drop, length-drop, take-append-drop}
use Rattle.std.specs.declared.cmp.Ordering.{Ordering}
use Rattle.std.specs.declared.cmp.Ordering.TheVariants.{Less, Equal, Greater}
use Rattle.std.specs.Ordering.{MatchOrdering}
use Rattle.octets.specs.Bytes.{same}
use Rattle.octets.specs.Order.{cmp, choose}
use Rattle.octets.proofs.Orders.{cmp-refl, cmp-trans, cmp-shorter, less-same, more_same, starts-decide}
use Rattle.octets.proofs.Sames.{same-is, same_refl}
use Rattle.octets.proofs.Tests.{never}
use Rattle.records.specs.Record.{header, header_of, carried}
use Rattle.records.proofs.Carried.{front-is, carried-long}
use Rattle.records.proofs.Records.{header-long}

-- what a record carries is its header, and two bytes more
with_rest : (r : List ℕ) → length r ≡ 384 → carried r ≡ header r ++ drop 243 (carried r)
unfolding header_of
with_rest r l = sym (take-append-drop 243 (carried r)) ∙ ap (λ (h : List ℕ). h ++ drop 243 (carried r)) (front-is r l)

-- so the header alone is before it
header-before : (r : List ℕ) → length r ≡ 384 → cmp (header r) (carried r) ≡ Less
header-before r l =
    ap₂ cmp (sym (append-nil (header r))) (with_rest r l)
    ∙ starts-decide (header r) (header r) [] rest refl
    ∙ ap (λ (o : Ordering). choose o Less (cmp [] rest) Greater) (cmp-refl (header r))
    ∙ sym (cmp-shorter [] rest 0 refl (omega arith) (simp (length-drop, carried-long r l) (omega arith)))
  where
    rest : List ℕ
    rest = drop 243 (carried r)

pub front_less : (h r : List ℕ) → length r ≡ 384 → cmp h (header r) ≡ Less → cmp h (carried r) ≡ Less
front_less h r l e = cmp-trans h (header r) (carried r) e (header-before r l)

stays : (o p : Ordering) → (o ≡ Equal → ⊥) → choose o Less p Greater ≡ o
stays Less p d = refl
stays Equal p d = absurd (d refl)
stays Greater p d = refl

module _ (q r : List ℕ) (lq : length q ≡ 384) (lr : length r ≡ 384) where
  pub fronts-decide : (o : Ordering) → (o ≡ Equal → ⊥) → cmp (header q) (header r) ≡ o → cmp (carried q) (carried r) ≡ o
  fronts-decide o d e =
      ap₂ cmp (with_rest q lq) (with_rest r lr)
      ∙ starts-decide (header q) (header r) (drop 243 (carried q)) (drop 243 (carried r)) (header-long q lq ∙ sym (header-long r lr))
      ∙ ap (λ (c : Ordering). choose c Less (cmp (drop 243 (carried q)) (drop 243 (carried r))) Greater) e
      ∙ stays o (cmp (drop 243 (carried q)) (drop 243 (carried r))) d

  -- what is w where o is how the headers stand, and P tells it where these are the same
  pub headers-then : (P : Type 0) (o w : Ordering) → o ≡ cmp (header q) (header r) → (P → w ≡ cmp (carried q) (carried r)) → MatchOrdering o (w ≡ Less) P (w ≡ Greater) → w ≡ cmp (carried q) (carried r)
  headers-then P Less w e f m = m ∙ sym (fronts-decide Less less-same (sym e))
  headers-then P Equal w e f m = f m
  headers-then P Greater w e f m = m ∙ sym (fronts-decide Greater more_same (sym e))

  pub fronts-differ : same (header q) (header r) ≡ false → same (carried q) (carried r) ≡ false
  fronts-differ e = never (same (carried q) (carried r)) (λ t.
      let both : header q ≡ header r = sym (front-is q lq) ∙ ap header_of (same-is (carried q) (carried r) t) ∙ front-is r lr in
      true≢false (sym (ap (same (header q)) (sym both) ∙ same_refl (header q)) ∙ e))
