-- The records that the test lets through are those that lengthen the list, each by one.
use Rattle.std.proofs.Common.{rules, tests, ◌≡◌, ◌+◌, length, ℕ, ap, ◌∙◌, Bool, true, false, not}
use Rattle.std.proofs.lemmas.Iterator.{YieldsList-from_range}
use Rattle.std.proofs.lemmas.Iterator.Consumers.{YieldsList-from_filter, count_from_yields_List}
use Rattle.std.specs.List.{filter, range_with_len}
use Rattle.octets.specs.Bytes.{pick}
use Rattle.ledger.specs.Sorted.{has, insert_all, Sorted}
use Rattle.slots.specs.WorkingSlots.{rec}
use Rattle.slots.specs.Slots.{recs}
use Rattle.slots.proofs.tally.Goals as goal
use mathlib.Core.List.{List, [], ◌∷◌, ◌++◌}
use mathlib.Core.Path.{refl}
use mathlib.Core.Bool.{cond}
use native.Mathlib.Omega.{arith}
use Rattle.std.proofs.Common.{suc, zero}
use Rattle.slots.proofs.Records.{recs-length, old-count, on-board, count-next}

-- whether record i of t is neither among the first n of s nor before it in t
test : List ℕ → List ℕ → ℕ → ℕ → Bool
test s t n i = pick (has (rec i t) (recs n s)) false (not (has (rec i t) (recs i t)))

step : (s t : List ℕ) (n i : ℕ) → Sorted (recs n s) → pick (test s t n i) 1 0 + length (insert_all (recs i t) (recs n s)) ≡ length (insert_all (recs (i + 1) t) (recs n s))
unfolding test
step s t n i o = by (has (rec i t) (recs n s)) (has (rec i t) (recs i t)) refl refl
  where
    by : (p h : Bool) → p ≡ has (rec i t) (recs n s) → h ≡ has (rec i t) (recs i t) → pick (pick p false (not h)) 1 0 + length (insert_all (recs i t) (recs n s)) ≡ length (insert_all (recs (i + 1) t) (recs n s))
    by true h e f = old-count s t n i o (on-board s t n i o e)
    by false h e f = count-next s t n i o h f e

at : (b : Bool) (y : ℕ) (us : List ℕ) → length (cond b (y ∷ us) us) ≡ pick b 1 0 + length us
at true y us = omega arith
at false y us = omega arith

-- one index more
split : (p : ℕ → Bool) (xs : List ℕ) (x : ℕ) → length (filter p (xs ++ x ∷ [])) ≡ pick (p x) 1 0 + length (filter p xs)
split p [] x = at (p x) x []
split p (y ∷ ys) x = at (p y) y (filter p (ys ++ x ∷ [])) ∙ ap (λ (k : ℕ). pick (p y) 1 0 + k) (split p ys x) ∙ (let q = at (p y) y (filter p ys) in omega arith)

last : (a n j : ℕ) → a + n ≡ j → range_with_len a (suc n) ≡ range_with_len a n ++ j ∷ []
last a zero j e = ap (λ (k : ℕ). k ∷ []) (let q : a ≡ j = omega arith in q)
last a (suc n) j e = ap (λ (l : List ℕ). a ∷ l) (last (a + 1) n j (omega arith))

all : (s t : List ℕ) (n m : ℕ) → Sorted (recs n s) → length (filter (test s t n) (range_with_len 0 m)) + n ≡ length (insert_all (recs m t) (recs n s))
all s t n zero o = omega (arith, recs-length n s)
all s t n (suc m) o =
    let on : suc m ≡ m + 1 = omega arith in
    let q = ap (λ (l : List ℕ). length (filter (test s t n) l)) (last 0 m m (omega arith)) ∙ split (test s t n) (range_with_len 0 m) m in
    let r = ap (λ (k : ℕ). length (insert_all (recs k t) (recs n s))) on in
    let st = step s t n m o in
    let ih = all s t n m o in omega arith

-- the clause of `is_new` tells its answer
alike : (a b : Bool) (x y : ℕ) → pick a 1 0 + x ≡ y → pick b 1 0 + x ≡ y → a ≡ b
alike true true x y e f = refl
alike false false x y e f = refl
alike true false x y e f = absurd (let p : 1 + x ≡ y = e in let q : 0 + x ≡ y = f in omega arith)
alike false true x y e f = absurd (let p : 0 + x ≡ y = e in let q : 1 + x ≡ y = f in omega arith)

pub returns-clause-n_value : goal.returns-clause-n_value
returns-clause-n_value c =
    let a = c.args in
    ap (λ (k : ℕ). k + a.n) (count_from_yields_List c.filter.result _ c.count.ensures.ran
    (YieldsList-from_filter _ (test a.s.now a.batch.now a.n) (YieldsList-from_range 0 a.m a.m c.filter.ensures.source (omega arith)) c.filter.ensures.closure
    (λ x b q k. (search (rules, tests), alike b (test a.s.now a.batch.now a.n x) _ _ (search rules) (step a.s.now a.batch.now a.n x c.requires.2)))))
    ∙ all a.s.now a.batch.now a.n a.m c.requires.2
