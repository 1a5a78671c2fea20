-- Rows of numbers: the lowest that applies, whether none does, and one row in front of others.
--     held, held-when     a test that must hold, in front of what is asked next, and that is asked only where the test holds
--     none-lowest         0 is the lowest exactly if none applies
--     each-off            then each does not
--     lowest-append       the lowest of two lists of rows
--     numbered            the lowest of its rows is a call's number
use Prim.Native.Nat.{ℕ, zero, suc}
use mathlib.Core.Path.{◌≡◌, refl, sym, ◌∙◌}
use mathlib.Core.Logic.{inl, inr, ◌↔◌}
use mathlib.Core.Bool.{Bool, true, false, ◌&&◌, not, true≢false}
use mathlib.Core.List.{List, [], ◌∷◌, ◌++◌, map}
use borrow.Author.Tests.{eqb-false, not-true}
use lib.Dec.{eqb}
use lib.ListN.{get_or}
use Rattle.octets.specs.Bytes.{pick, every}
use Rattle.octets.proofs.Tests.{every_first, every_rest}
use Rattle.ledger.specs.Sorted.{In}
use Rattle.demands.specs.Numbers.{NumberRow, row, lowest_in, none_applies, Numbered}

-- ---- one row in front of others

pub held : (b : Bool) (n x : ℕ) (rs : List NumberRow) → x ≡ lowest_in rs → pick b x n ≡ lowest_in (row n (not b) ∷ rs)
unfolding lowest_in
held true n x rs h = h
held false n x rs h = refl

-- what is asked next counts only where the test holds
pub held-when : (b : Bool) (n x : ℕ) (rs : List NumberRow) → (b ≡ true → x ≡ lowest_in rs) → pick b x n ≡ lowest_in (row n (not b) ∷ rs)
unfolding lowest_in
held-when true n x rs h = h refl
held-when false n x rs h = refl

-- what is asked of a choice is asked of each
pub at-pick : {A : Type 0} (f : A → ℕ) (b : Bool) (x y : A) → f (pick b x y) ≡ pick b (f x) (f y)
at-pick f true x y = refl
at-pick f false x y = refl

pub pick_same : {A : Type 0} (b : Bool) (x : A) → pick b x x ≡ x
pick_same true x = refl
pick_same false x = refl

-- ---- none applies

-- the numbers of these rows are not 0
abbrev pub positive : List NumberRow → Bool
positive rs = every (λ r. not (eqb r.number 0)) rs

pub none-lowest : (rs : List NumberRow) → positive rs ≡ true → (lowest_in rs ≡ 0) ↔ (none_applies rs ≡ true)
unfolding lowest_in none_applies every
none-lowest [] h = (λ e. refl, λ e. refl)
none-lowest (r ∷ rs) h =
    go r.applies (eqb-false r.number 0 (not-true (eqb r.number 0) (every_first (λ (r : NumberRow). not (eqb r.number 0)) r rs h)))
    (none-lowest rs (every_rest (λ (r : NumberRow). not (eqb r.number 0)) r rs h))
  where
    go : (b : Bool) → (r.number ≡ 0 → ⊥) → (lowest_in rs ≡ 0) ↔ (none_applies rs ≡ true) →
        (pick b r.number (lowest_in rs) ≡ 0) ↔ ((not b && none_applies rs) ≡ true)
    go true n ih = (λ e. absurd (n e), λ e. absurd (true≢false (sym e)))
    go false n ih = ih

-- the same as a test
pub none-test : (rs : List NumberRow) → positive rs ≡ true → eqb (lowest_in rs) 0 ≡ none_applies rs
unfolding lowest_in none_applies every
none-test [] h = refl
none-test (r ∷ rs) h =
    go r.applies (not-true (eqb r.number 0) (every_first (λ (r : NumberRow). not (eqb r.number 0)) r rs h))
    (none-test rs (every_rest (λ (r : NumberRow). not (eqb r.number 0)) r rs h))
  where
    go : (b : Bool) → eqb r.number 0 ≡ false → eqb (lowest_in rs) 0 ≡ none_applies rs → eqb (pick b r.number (lowest_in rs)) 0 ≡ (not b && none_applies rs)
    go true n ih = n
    go false n ih = ih

-- then no row does
pub each-off : (i : ℕ) (rs : List NumberRow) → none_applies rs ≡ true → (get_or rs i (row 0 false)).applies ≡ false
unfolding none_applies
each-off i [] h = refl
each-off zero (r ∷ rs) h = not-true r.applies (every_first (λ (r : NumberRow). not r.applies) r rs h)
each-off (suc i) (r ∷ rs) h = each-off i rs (every_rest (λ (r : NumberRow). not r.applies) r rs h)

-- ---- two lists of rows

pub lowest-append : (rs qs : List NumberRow) → positive rs ≡ true → lowest_in (rs ++ qs) ≡ pick (eqb (lowest_in rs) 0) (lowest_in qs) (lowest_in rs)
unfolding lowest_in
lowest-append [] qs h = refl
lowest-append (r ∷ rs) qs h =
    go r.applies (not-true (eqb r.number 0) (every_first (λ (r : NumberRow). not (eqb r.number 0)) r rs h))
    (lowest-append rs qs (every_rest (λ (r : NumberRow). not (eqb r.number 0)) r rs h))
  where
    go : (b : Bool) → eqb r.number 0 ≡ false → lowest_in (rs ++ qs) ≡ pick (eqb (lowest_in rs) 0) (lowest_in qs) (lowest_in rs) →
        pick b r.number (lowest_in (rs ++ qs)) ≡ pick (eqb (pick b r.number (lowest_in rs)) 0) (lowest_in qs) (pick b r.number (lowest_in rs))
    go true n ih = rw n
    go false n ih = ih

-- ---- a call's number

among : (rs : List NumberRow) → (lowest_in rs ≡ 0 → ⊥) → In (lowest_in rs) (map (λ (r : NumberRow). r.number) rs)
unfolding lowest_in
among [] n = absurd (n refl)
among (r ∷ rs) n = go r.applies n (among rs)
  where
    go : (b : Bool) → (pick b r.number (lowest_in rs) ≡ 0 → ⊥) → ((lowest_in rs ≡ 0 → ⊥) → In (lowest_in rs) (map (λ (r : NumberRow). r.number) rs)) →
        In (pick b r.number (lowest_in rs)) (r.number ∷ map (λ (r : NumberRow). r.number) rs)
    go true n ih = inl refl
    go false n ih = inr (ih n)

pub numbered : (n : ℕ) (rs : List NumberRow) → positive rs ≡ true → n ≡ lowest_in rs → Numbered n rs
numbered n rs p e =
    let z = none-lowest rs p in
    record {
      lowest = e;
      zero-exactly = (λ h. z.0 (sym e ∙ h), λ h. e ∙ z.1 h);
      own = λ h. rw e (among rs (λ k. h (e ∙ k)));
    }
