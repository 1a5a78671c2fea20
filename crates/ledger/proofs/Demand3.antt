-- Sentences 1, 3 and 4 of demand 3, of a board as the list of its filled records. Sentence 2 is in Taken.
--     same-board     the same alerts, each once or more, in any order: equal boards
--     in_order       hand-outs, while there is room, give the due headers in byte order, each once
--     once           over any mixture of calls no header is handed out twice
use Prim.Native.Nat.{ℕ, zero, suc, ◌+◌, ◌≤◌}
use mathlib.Core.Bool.{Bool}
use mathlib.Core.Path.{◌≡◌, refl, sym, ap, ◌∙◌, subst}
use mathlib.Core.Logic.{◌⊎◌, inl, inr, ⊎_elim, ◌↔◌}
use mathlib.Core.List.{List, [], ◌∷◌, ◌++◌}
use native.Mathlib.Omega.{arith}
use lib.Dec.{leb}
use lib.ListN.{length, take}
use borrow.Author.Tests.{le-leb}
use Rattle.std.specs.declared.cmp.Ordering.TheVariants.{Less}
use Rattle.octets.specs.Bytes.{pick}
use Rattle.octets.specs.Order.{cmp}
use Rattle.octets.proofs.Tests.{either_way}
use Rattle.records.specs.Record.{aired}
use Rattle.ledger.specs.Sorted.{In, Sorted, insert, insert_all}
use Rattle.ledger.specs.WorkingBoard.{due, Alert, records, offer, offers, Taken, After, hand_out_of, hands, Call, offered, handed_out, given, Once}
use Rattle.ledger.proofs.Sorts.{in_insert, in-insert_all, insert_all-sorted, insert-length, sorted_ext, not-before-self}
use Rattle.ledger.proofs.Dues.{in-due, due-sorted, due-aired}

-- an offer that has room
offer-taken : (cap : ℕ) (a : Alert) (b : List (List ℕ)) → length (insert_all (records a) b) ≤ cap → offer cap a b ≡ insert_all (records a) b
offer-taken cap a b h = ap (λ (t : Bool). pick t (insert_all (records a) b) b) (le-leb (length (insert_all (records a) b)) cap h)

-- whatever a call does, what is held stays, and the board stays in order
offer-keeps : (cap : ℕ) (a : Alert) (b : List (List ℕ)) (r : List ℕ) → In r b → In r (offer cap a b)
offer-keeps cap a b r m = either_way (In r) (leb (length (insert_all (records a) b)) cap) (insert_all (records a) b) b (λ _. (in-insert_all r (records a) b).1 (inr m)) (λ _. m)

offer-sorted : (cap : ℕ) (a : Alert) (b : List (List ℕ)) → Sorted b → Sorted (offer cap a b)
offer-sorted cap a b s = either_way Sorted (leb (length (insert_all (records a) b)) cap) (insert_all (records a) b) b (λ _. insert_all-sorted (records a) b s) (λ _. s)

pub offers-sorted : (cap : ℕ) (l : List Alert) (b : List (List ℕ)) → Sorted b → Sorted (offers cap l b)
offers-sorted cap [] b s = s
offers-sorted cap (a ∷ l) b s = offers-sorted cap l (offer cap a b) (offer-sorted cap a b s)

-- the members of a board after offers that were all taken
abbrev Sent : List ℕ → List Alert → Type 0
Sent y l = (a : Alert) × In a l × In y (records a)

in-offers : (cap : ℕ) (y : List ℕ) (l : List Alert) (b : List (List ℕ)) → Taken cap l b → In y (offers cap l b) ↔ (Sent y l ⊎ In y b)
in-offers cap y [] b t = (inr, ⊎_elim (λ w. absurd w.1) (λ m. m))
in-offers cap y (a ∷ l) b t = go (in-offers cap y l (offer cap a b) t.1) (subst (λ (x : List (List ℕ)). In y x ↔ (In y (records a) ⊎ In y b)) (sym (offer-taken cap a b t.0)) (in-insert_all y (records a) b))
  where
    go : (In y (offers cap l (offer cap a b)) ↔ (Sent y l ⊎ In y (offer cap a b))) → (In y (offer cap a b) ↔ (In y (records a) ⊎ In y b)) → In y (offers cap l (offer cap a b)) ↔ (Sent y (a ∷ l) ⊎ In y b)
    go f g = (
      λ m. ⊎_elim (λ w. inl (w.0, inr w.1, w.2)) (λ k. ⊎_elim (λ r. inl (a, inl refl, r)) inr (g.0 k)) (f.0 m),
      ⊎_elim (λ w. ⊎_elim (λ p. f.1 (inr (g.1 (inl (subst (λ (x : Alert). In y (records x)) p w.2))))) (λ m. f.1 (inl (w.0, m, w.2))) w.1) (λ k. f.1 (inr (g.1 (inr k)))),
    )

in-offers-nil : (cap : ℕ) (y : List ℕ) (l : List Alert) → Taken cap l [] → In y (offers cap l []) ↔ Sent y l
in-offers-nil cap y l t = (λ m. ⊎_elim (λ w. w) absurd ((in-offers cap y l [] t).0 m), λ w. (in-offers cap y l [] t).1 (inl w))

-- ---- sentence 1: the same alerts, each once or more, in any order, on two empty boards, leave equal filled records
pub same-board : (cap cap' : ℕ) (l l' : List Alert) → Taken cap l [] → Taken cap' l' []
    → ((a : Alert) → In a l → In a l') → ((a : Alert) → In a l' → In a l)
    → offers cap l [] ≡ offers cap' l' []
same-board cap cap' l l' t t' f g =
    sorted_ext (offers cap l []) (offers cap' l' []) (offers-sorted cap l [] tt) (offers-sorted cap' l' [] tt)
    (λ y m. let w = (in-offers-nil cap y l t).0 m in (in-offers-nil cap' y l' t').1 (w.0, f w.0 w.1, w.2))
    (λ y m. let w = (in-offers-nil cap' y l' t').0 m in (in-offers-nil cap y l t).1 (w.0, g w.0 w.1, w.2))

-- ---- sentence 3: hand-outs, while there is room, give the due headers in byte order, each once

due-next : (b : List (List ℕ)) (h : List ℕ) (hs : List (List ℕ)) → due b ≡ h ∷ hs → due (insert (aired h) b) ≡ hs
due-next b h hs e =
    sorted_ext (due (insert (aired h) b)) hs (due-sorted (insert (aired h) b)) s.1
    (λ y m. let w = (due-aired b h y).0 ((in-due (insert (aired h) b) y).0 m) in ⊎_elim (λ p. absurd (w.1 p)) (λ k. k) (subst (λ (x : List (List ℕ)). In y x) e ((in-due b y).1 w.0)))
    (λ y m. (in-due (insert (aired h) b) y).1 ((due-aired b h y).1 ((in-due b y).0 (subst (λ (x : List (List ℕ)). In y x) (sym e) (inr m)), λ p. not-before-self h (subst (λ (x : List ℕ). cmp h x ≡ Less) p (s.0 y m)))))
  where
    s : Sorted (h ∷ hs)
    s = subst Sorted e (due-sorted b)

pub in_order : (cap n : ℕ) (b : List (List ℕ)) → length b + n ≤ cap → hands cap n b ≡ take n (due b)
in_order cap zero b room = refl
in_order cap (suc n) b room = go (due b) refl (λ b' r. in_order cap n b' r)
  where
    none : (m : ℕ) (b' : List (List ℕ)) → due b' ≡ [] → hands cap m b' ≡ []
    none zero b' e = refl
    none (suc m) b' e = rw e (none m b' e)

    go : (d : List (List ℕ)) → due b ≡ d → ((b' : List (List ℕ)) → length b' + n ≤ cap → hands cap n b' ≡ take n (due b')) → (hand_out_of cap b d).given ++ hands cap n (hand_out_of cap b d).board ≡ take (suc n) d
    go [] e ih = none n b e
    go (h ∷ hs) e ih =
        rw (le-leb (length (insert (aired h) b)) cap (omega (arith, (insert-length (aired h) b).1)))
        (ap (λ (x : List (List ℕ)). h ∷ x) (ih (insert (aired h) b) (omega (arith, (insert-length (aired h) b).1)) ∙ ap (take n) (due-next b h hs e)))

-- ---- sentence 4: over any mixture of calls no header is handed out twice

never-again : (cap : ℕ) (cs : List Call) (b : List (List ℕ)) (h : List ℕ) → In (aired h) b → In h (given cap cs b) → ⊥
never-again cap [] b h a m = m
never-again cap (offered x ∷ cs) b h a m = never-again cap cs (offer cap x b) h (offer-keeps cap x b (aired h) a) m
never-again cap (handed_out ∷ cs) b h a m = go (due b) refl (λ b' a' m'. never-again cap cs b' h a' m') m
  where
    go : (d : List (List ℕ)) → due b ≡ d → ((b' : List (List ℕ)) → In (aired h) b' → In h (given cap cs b') → ⊥) → In h ((hand_out_of cap b d).given ++ given cap cs (hand_out_of cap b d).board) → ⊥
    go [] e ih = ih b a
    go (k ∷ ks) e ih = either_way (λ (x : After). In h (x.given ++ given cap cs x.board) → ⊥) (leb (length (insert (aired k) b)) cap) (record { board = insert (aired k) b; given = k ∷ [] }) (record { board = b; given = [] })
        (λ _. ⊎_elim (λ p. ((in-due b k).0 (subst (λ (x : List (List ℕ)). In k x) (sym e) (inl refl))).not-aired (subst (λ (x : List ℕ). In (aired x) b) p a)) (ih (insert (aired k) b) ((in_insert (aired h) (aired k) b).1 (inr a))))
        (λ _. ih b a)

pub once : (cap : ℕ) (cs : List Call) (b : List (List ℕ)) → Once (given cap cs b)
once cap [] b = tt
once cap (offered a ∷ cs) b = once cap cs (offer cap a b)
once cap (handed_out ∷ cs) b = go (due b) (λ b'. once cap cs b')
  where
    go : (d : List (List ℕ)) → ((b' : List (List ℕ)) → Once (given cap cs b')) → Once ((hand_out_of cap b d).given ++ given cap cs (hand_out_of cap b d).board)
    go [] ih = ih b
    go (k ∷ ks) ih = either_way (λ (x : After). Once (x.given ++ given cap cs x.board)) (leb (length (insert (aired k) b)) cap) (record { board = insert (aired k) b; given = k ∷ [] }) (record { board = b; given = [] })
        (λ _. (never-again cap cs (insert (aired k) b) k ((in_insert (aired k) (aired k) b).1 (inl refl)), ih (insert (aired k) b)))
        (λ _. ih b)
