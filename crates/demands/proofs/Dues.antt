-- What is due, as the demands say it of any records, and as the library finds it on records that keep their rules.
--     due-same, rows_same         the library's due headers and rows are those of the demands
--     due-is, due-sorted          the due headers are those of which the sentence Due holds, strictly ascending
use Prim.Native.Nat.{ℕ, zero, suc}
use mathlib.Core.Bool.{Bool, true, false, ◌&&◌, not, and-true, and-false}
use mathlib.Core.Path.{◌≡◌, refl, sym, ap, ap₂, ◌∙◌, subst}
use mathlib.Core.Logic.{inl, ⊎_elim, ◌↔◌}
use mathlib.Core.List.{List, [], ◌∷◌, map}
use lib.Dec.{eqb}
use lib.ListN.{length}
use Rattle.octets.specs.Bytes.{pick, every, holds, same}
use Rattle.octets.proofs.Sames.{same-is, same_refl}
use Rattle.records.specs.Record.{kind, key, carried, record_ok, withdrawal, aired}
use Rattle.records.proofs.Records.{kind-withdrawal, kind-aired, withdrawal-inj, aired-inj}
use Rattle.records.proofs.Fields.{withdrawal-is, aired-is}
use Rattle.ledger.specs.declared.Row.{Row}
use Rattle.ledger.specs.Sorted.{In, has, Sorted, insert_all}
use Rattle.ledger.specs.WorkingBoard as ledger
use Rattle.ledger.specs.WorkingBoard.{unwithdrawn, live, headers, carries, count_of, due, rows_of}
use Rattle.ledger.proofs.Sorts.{has_in, in-insert_all, insert_all-sorted, in_map, every_in}
use Rattle.told.specs.Values.{passing}
use Rattle.demands.specs.Board.{some, withdrawn, aired_on, carries_it, makes_due, due_headers, Due, first_index, row_of}
use Rattle.demands.proofs.Rows.{at-pick}
use Rattle.demands.proofs.Members.{both, eqb-iff, same-iff, and-iff, not_iff, some_in, in-passing}

-- ---- records of a kind on a board

-- a record of kind k on b has the field v
abbrev On : List (List ℕ) → ℕ → (List ℕ → List ℕ) → List ℕ → Type 0
On b k f v = (r : List ℕ) × In r b × (kind r ≡ k) × (f r ≡ v)

on-is : (b : List (List ℕ)) (k : ℕ) (f : List ℕ → List ℕ) (v : List ℕ) → (some (λ r. eqb (kind r) k && same (f r) v) b ≡ true) ↔ On b k f v
on-is b k f v = (
  λ e. let w = members.0 e in let t = (tests w.0).0 w.2 in (w.0, w.1, t.0, t.1),
  λ w. members.1 (w.0, w.1, (tests w.0).1 (w.2, w.3)),
)
  where
    members : (some (λ r. eqb (kind r) k && same (f r) v) b ≡ true) ↔ ((r : List ℕ) × In r b × ((eqb (kind r) k && same (f r) v) ≡ true))
    members = some_in (λ r. eqb (kind r) k && same (f r) v) b

    tests : (r : List ℕ) → ((eqb (kind r) k && same (f r) v) ≡ true) ↔ ((kind r ≡ k) × (f r ≡ v))
    tests r = and-iff (eqb (kind r) k) (same (f r) v) (kind r ≡ k) (f r ≡ v) (eqb-iff (kind r) k) (same-iff (f r) v)

-- ---- the library's tests are those of the demands

and-three : (x y z : Bool) → every holds (every holds (x ∷ y ∷ []) ∷ z ∷ []) ≡ (x && (y && z))
unfolding every
and-three true true z = and-true z
and-three true false z = refl
and-three false y z = refl

-- y and y' are the same where z holds
and-under : (x y y' z : Bool) → (z ≡ true → y ≡ y') → every holds (every holds (x ∷ y ∷ []) ∷ z ∷ []) ≡ (every holds (x ∷ z ∷ []) && y')
unfolding every
and-under false y y' z h = refl
and-under true y y' true h = and-true (y && true) ∙ and-true y ∙ h refl
and-under true y y' false h = and-false (y && true)

module _ (b : List (List ℕ)) (ok : every record_ok b ≡ true) where
  -- a maker's record on b is a record of its kind
  made : (make f : List ℕ → List ℕ) (k : ℕ) → ((v : List ℕ) → kind (make v) ≡ k) → ((u v : List ℕ) → make u ≡ make v → u ≡ v)
      → ((r : List ℕ) → record_ok r ≡ true → kind r ≡ k → r ≡ make (f r)) → (v : List ℕ) → has (make v) b ≡ some (λ r. eqb (kind r) k && same (f r) v) b
  made make f k of-kind inj back v = both (has (make v) b) (some (λ r. eqb (kind r) k && same (f r) v) b)
      (λ e. let m = (has_in (make v) b).0 e in
      (on-is b k f v).1 (make v, m, of-kind v, sym (inj v (f (make v)) (back (make v) (every_in record_ok b ok (make v) m) (of-kind v)))))
      (λ e. let w = (on-is b k f v).0 e in
      (has_in (make v) b).1 (subst (λ (x : List ℕ). In x b) (back w.0 (every_in record_ok b ok w.0 w.1) w.2 ∙ ap make w.3) w.1))

  withdrawn-same : (n : List ℕ) → has (withdrawal (key n)) b ≡ withdrawn b n
  withdrawn-same n = made withdrawal key 2 kind-withdrawal withdrawal-inj withdrawal-is (key n)

  aired-same : (h : List ℕ) → has (aired h) b ≡ aired_on b h
  aired-same h = made aired carried 3 kind-aired aired-inj aired-is h

  carries_same : (h n : List ℕ) → carries (unwithdrawn b) h n ≡ carries_it b h n
  unfolding carries unwithdrawn
  carries_same h n =
      and-three (eqb (kind n) 1) (not (has (withdrawal (key n)) b)) (same (carried n) h)
      ∙ ap (λ (t : Bool). eqb (kind n) 1 && (not t && same (carried n) h)) (withdrawn-same n)

  makes-same : (h n : List ℕ) → carries (live b) h n ≡ makes_due b h n
  unfolding carries live
  makes-same h n =
      and-under (unwithdrawn b n) (not (has (aired (carried n)) b)) (not (aired_on b h)) (same (carried n) h)
      (λ e. ap not (ap (λ (x : List ℕ). has (aired x) b) (same-is (carried n) h e) ∙ aired-same h))
      ∙ ap (λ (t : Bool). t && not (aired_on b h)) (carries_same h n)

  live_same : (n : List ℕ) → live b n ≡ makes_due b (carried n) n
  unfolding carries every
  live_same n = sym (rw (same_refl (carried n), and-true)) ∙ makes-same (carried n) n

  headers-are : (l : List (List ℕ)) → headers (live b) l ≡ map carried (passing (λ n. makes_due b (carried n) n) l)
  headers-are [] = refl
  headers-are (r ∷ l) = ap (λ (t : Bool). pick t (carried r ∷ headers (live b) l) (headers (live b) l)) (live_same r) ∙ go (makes_due b (carried r) r) (headers-are l)
    where
      rest : List (List ℕ)
      rest = passing (λ n. makes_due b (carried n) n) l

      go : (t : Bool) → headers (live b) l ≡ map carried rest → pick t (carried r ∷ headers (live b) l) (headers (live b) l) ≡ map carried (pick t (r ∷ rest) rest)
      go true ih = ap (λ (x : List (List ℕ)). carried r ∷ x) ih
      go false ih = ih

  pub due-same : due b ≡ due_headers b
  unfolding due
  due-same = ap (λ (l : List (List ℕ)). insert_all l []) (headers-are b)

  pub index_same : (h : List ℕ) (l : List (List ℕ)) → ledger.index_of (live b) h l ≡ first_index (makes_due b h) l
  index_same h [] = refl
  index_same h (r ∷ l) = ap₂ (λ (t : Bool) (k : ℕ). pick t zero (suc k)) (makes-same h r) (index_same h l)

  count_same : (h : List ℕ) (l : List (List ℕ)) → count_of (unwithdrawn b) h l ≡ length (passing (carries_it b h) l)
  count_same h [] = refl
  count_same h (r ∷ l) = ap₂ (λ (t : Bool) (k : ℕ). pick t (suc k) k) (carries_same h r) (count_same h l) ∙ sym (at-pick length (carries_it b h r) _ _)

  row_same : (h : List ℕ) → ledger.row_of b h ≡ row_of b h
  row_same h = ap₂ (λ (i k : ℕ). record { index = i; count = k }) (index_same h b) (count_same h b)

  pub rows_same : rows_of b ≡ map (row_of b) (due_headers b)
  unfolding rows_of
  rows_same = ap₂ (λ (f : List ℕ → Row) (l : List (List ℕ)). map f l) (λ i h. row_same h i) due-same

-- ---- what is due, of any records

-- n is a notice that is not withdrawn and carries the header h, and no aired record does
abbrev MakesDue : List (List ℕ) → List ℕ → List ℕ → Type 0
MakesDue b h n = ((kind n ≡ 1) × ((On b 2 key (key n) → ⊥) × (carried n ≡ h))) × (On b 3 carried h → ⊥)

makes-is : (b : List (List ℕ)) (h n : List ℕ) → (makes_due b h n ≡ true) ↔ MakesDue b h n
makes-is b h n =
    and-iff (carries_it b h n) (not (aired_on b h)) _ _
    (and-iff (eqb (kind n) 1) (not (withdrawn b n) && same (carried n) h) _ _ (eqb-iff (kind n) 1)
    (and-iff (not (withdrawn b n)) (same (carried n) h) _ _ (not_iff (withdrawn b n) _ (on-is b 2 key (key n))) (same-iff (carried n) h)))
    (not_iff (aired_on b h) _ (on-is b 3 carried h))

pub due-is : (b : List (List ℕ)) (h : List ℕ) → In h (due_headers b) ↔ Due b h
due-is b h = (λ m. ⊎_elim (λ k. to ((in_map carried h (passing makes b)).0 k)) absurd ((in-insert_all h (map carried (passing makes b)) []).0 m), from)
  where
    makes : List ℕ → Bool
    makes n = makes_due b (carried n) n

    to : ((n : List ℕ) × In n (passing makes b) × (h ≡ carried n)) → Due b h
    to w =
        let p = (in-passing makes w.0 b).0 w.1 in
        let v = (makes-is b (carried w.0) w.0).0 p.1 in
        record {
          by = w.0;
          held = p.0;
          is-notice = v.0.0;
          carries = sym w.2;
          not-withdrawn = λ x m k e. v.0.1.0 (x, m, k, e);
          not-aired = λ x m k e. v.1 (x, m, k, e ∙ w.2);
        }

    from : Due b h → In h (due_headers b)
    from d =
        let withdrawn : On b 2 key (key d.by) → ⊥ = λ w. d.not-withdrawn w.0 w.1 w.2 w.3 in
        let aired : On b 3 carried (carried d.by) → ⊥ = λ w. d.not-aired w.0 w.1 w.2 (w.3 ∙ d.carries) in
        let t : makes d.by ≡ true = (makes-is b (carried d.by) d.by).1 ((d.is-notice, (withdrawn, refl)), aired) in
        (in-insert_all h (map carried (passing makes b)) []).1
        (inl ((in_map carried h (passing makes b)).1 (d.by, (in-passing makes d.by b).1 (d.held, t), sym d.carries)))

pub due-sorted : (b : List (List ℕ)) → Sorted (due_headers b)
due-sorted b = insert_all-sorted (map carried (passing (λ n. makes_due b (carried n) n) b)) [] tt
