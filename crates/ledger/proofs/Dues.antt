-- What is due, by the members of the board.
--     in-due        the due headers are those of which the sentence Due holds
--     due-sorted    they are strictly ascending
--     due-aired     an aired record ends its own header and no other
use Prim.Native.Nat.{ℕ, ◌<◌}
use mathlib.Core.Bool.{Bool, true, false}
use mathlib.Core.Path.{◌≡◌, refl, sym, ap, ◌∙◌, subst}
use mathlib.Core.Logic.{◌⊎◌, inl, inr, ⊎_elim, ◌↔◌}
use mathlib.Core.List.{List, [], ◌∷◌}
use native.Mathlib.Omega.{arith}
use borrow.Author.Tests.{eqb-true, eq-eqb}
use Rattle.std.specs.declared.cmp.Ordering.TheVariants.{Greater}
use Rattle.octets.specs.Bytes.{pick}
use Rattle.octets.specs.Order.{cmp}
use Rattle.octets.proofs.Orders.{first_above}
use Rattle.octets.proofs.Tests.{each_of, every_of}
use Rattle.records.specs.Record.{kind, key, carried, withdrawal, aired}
use Rattle.records.proofs.Records.{aired-inj, kind-withdrawal, kind-aired}
use Rattle.ledger.specs.Sorted.{In, Sorted, insert}
use Rattle.ledger.specs.WorkingBoard.{unwithdrawn, live, headers, due, Due}
use Rattle.ledger.proofs.Sorts.{in_insert, in-insert_all, insert_all-sorted, has-not}

-- a record of a later kind comes after
pub later-kind : (a r : List ℕ) → kind r < kind a → cmp a r ≡ Greater
later-kind [] r h = absurd (omega arith)
later-kind (x ∷ a) [] h = refl
later-kind (x ∷ a) (y ∷ r) h = first_above x y (cmp a r) h

-- ---- a notice that makes its header due

abbrev pub Unwithdrawn : List (List ℕ) → List ℕ → Type 0
Unwithdrawn b r = (kind r ≡ 1) × (In (withdrawal (key r)) b → ⊥)

pub unwithdrawn-is : (b : List (List ℕ)) (r : List ℕ) → (unwithdrawn b r ≡ true) ↔ Unwithdrawn b r
unfolding unwithdrawn
unwithdrawn-is b r = (
  λ e. let w = each_of _ e in (eqb-true (kind r) 1 w.0, (has-not (withdrawal (key r)) b).0 w.1.0),
  λ w. every_of _ (eq-eqb (kind r) 1 w.0, ((has-not (withdrawal (key r)) b).1 w.1, tt)),
)

abbrev pub Live : List (List ℕ) → List ℕ → Type 0
Live b r = Unwithdrawn b r × (In (aired (carried r)) b → ⊥)

pub live-is : (b : List (List ℕ)) (r : List ℕ) → (live b r ≡ true) ↔ Live b r
unfolding live
live-is b r = (
  λ e. let w = each_of _ e in ((unwithdrawn-is b r).0 w.0, (has-not (aired (carried r)) b).0 w.1.0),
  λ w. every_of _ ((unwithdrawn-is b r).1 w.0, ((has-not (aired (carried r)) b).1 w.1, tt)),
)

-- ---- the headers of those that pass a test

pub in-headers : (p : List ℕ → Bool) (h : List ℕ) (l : List (List ℕ)) → In h (headers p l) ↔ ((r : List ℕ) × In r l × (p r ≡ true) × (carried r ≡ h))
in-headers p h [] = (absurd, λ w. absurd w.1)
in-headers p h (x ∷ xs) = go (p x) refl (in-headers p h xs)
  where
    go : (t : Bool) → p x ≡ t → (In h (headers p xs) ↔ ((r : List ℕ) × In r xs × (p r ≡ true) × (carried r ≡ h)))
        → In h (pick t (carried x ∷ headers p xs) (headers p xs)) ↔ ((r : List ℕ) × ((r ≡ x) ⊎ In r xs) × (p r ≡ true) × (carried r ≡ h))
    go true e f = (
      ⊎_elim (λ q. (x, inl refl, e, sym q)) (λ m. ((f.0 m).0, inr (f.0 m).1, (f.0 m).2, (f.0 m).3)),
      λ w. ⊎_elim (λ q. inl (sym w.3 ∙ ap carried q)) (λ m. inr (f.1 (w.0, m, w.2, w.3))) w.1,
    )
    go false e f = (
      λ m. ((f.0 m).0, inr (f.0 m).1, (f.0 m).2, (f.0 m).3),
      λ w. ⊎_elim (λ q. let z : false ≡ true = sym e ∙ ap p (sym q) ∙ w.2 in absurd (let z : ◌≡◌ {A = ℕ} 0 1 = cc in omega arith)) (λ m. f.1 (w.0, m, w.2, w.3)) w.1,
    )

-- ---- the due headers

pub in-due : (b : List (List ℕ)) (h : List ℕ) → In h (due b) ↔ Due b h
unfolding due
in-due b h = (
  λ m. ⊎_elim
      (λ k.
      let w = (in-headers (live b) h b).0 k in
      let v = (live-is b w.0).0 w.2 in
      record {
        by = w.0;
        held = w.1;
        is-notice = v.0.0;
        carries = w.3;
        not-withdrawn = v.0.1;
        not-aired = subst (λ (x : List ℕ). In (aired x) b → ⊥) w.3 v.1;
      })
      absurd ((in-insert_all h (headers (live b) b) []).0 m),
  λ d. (in-insert_all h (headers (live b) b) []).1 (inl ((in-headers (live b) h b).1 (d.by, d.held, (live-is b d.by).1 ((d.is-notice, d.not-withdrawn), subst (λ (x : List ℕ). In (aired x) b → ⊥) (sym d.carries) d.not-aired), d.carries))),
)

pub due-sorted : (b : List (List ℕ)) → Sorted (due b)
unfolding due
due-sorted b = insert_all-sorted (headers (live b) b) [] tt

-- an aired record adds no notice and no withdrawal, and ends that header alone
pub due-aired : (b : List (List ℕ)) (h g : List ℕ) → Due (insert (aired h) b) g ↔ (Due b g × (g ≡ h → ⊥))
due-aired b h g = (
  λ d. (
    record {
      by = d.by;
      held = ⊎_elim (λ p. absurd (let q = sym d.is-notice ∙ ap kind p ∙ kind-aired h in omega arith)) (λ m. m) ((in_insert d.by (aired h) b).0 d.held);
      is-notice = d.is-notice;
      carries = d.carries;
      not-withdrawn = λ m. d.not-withdrawn ((in_insert (withdrawal (key d.by)) (aired h) b).1 (inr m));
      not-aired = λ m. d.not-aired ((in_insert (aired g) (aired h) b).1 (inr m));
    },
    λ p. d.not-aired ((in_insert (aired g) (aired h) b).1 (inl (ap aired p))),
  ),
  λ w. record {
    by = w.0.by;
    held = (in_insert w.0.by (aired h) b).1 (inr w.0.held);
    is-notice = w.0.is-notice;
    carries = w.0.carries;
    not-withdrawn = λ m. ⊎_elim (λ p. let q = sym (kind-withdrawal (key w.0.by)) ∙ ap kind p ∙ kind-aired h in omega arith) (λ k. w.0.not-withdrawn k) ((in_insert (withdrawal (key w.0.by)) (aired h) b).0 m);
    not-aired = λ m. ⊎_elim (λ p. w.1 (aired-inj g h p)) (λ k. w.0.not-aired k) ((in_insert (aired g) (aired h) b).0 m);
  },
)
