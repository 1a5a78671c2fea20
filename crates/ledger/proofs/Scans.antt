-- The record that carries the first header of those that pass a test, and the header that comes next.
--     best, best-same .. best-more    that record, with one record more
--     after-start, after_next         the due headers from the first on, and those behind one of them
--     row-index, row_count            the row of a due header
use Prim.Native.Nat.{ℕ, zero, suc, ◌+◌, ◌≤◌, ◌<◌}
use mathlib.Core.Bool.{Bool, true, false}
use mathlib.Core.Path.{◌≡◌, refl, sym, ap, ap₂, ◌∙◌, subst}
use mathlib.Core.Logic.{inl, inr, ⊎_elim, ◌↔◌}
use mathlib.Core.List.{List, [], ◌∷◌, ◌++◌}
use native.Mathlib.Nat.{le_trans}
use native.Mathlib.Omega.{arith}
use lib.ListN.{length, get_or}
use Rattle.std.specs.declared.cmp.Ordering.{Ordering}
use Rattle.std.specs.declared.cmp.Ordering.TheVariants.{Less, Equal, Greater}
use Rattle.octets.specs.Bytes.{pick, same}
use Rattle.octets.specs.Order.{cmp, choose}
use Rattle.octets.proofs.Orders.{cmp-refl, cmp-trans, less-same}
use Rattle.octets.proofs.Sames.{same-is, same_refl}
use Rattle.octets.proofs.Tests.{each_of, every_of}
use Rattle.records.specs.Record.{carried, aired}
use Rattle.ledger.specs.Sorted.{In, Sorted, insert, insert_all}
use Rattle.ledger.specs.WorkingBoard.{unwithdrawn, live, headers, ordered, due, carries, index_of, count_of}
use Rattle.ledger.specs.WorkingScan.{after, first_of, best_of}
use Rattle.ledger.proofs.Sorts.{in-insert_all, insert_all-sorted, insert_all-append, insert-length, sorted_ext, not-before-self}
use Rattle.ledger.proofs.Dues.{in-headers, live-is, unwithdrawn-is}

-- ---- tests as facts

-- two tests that hold together are equal
both : (a b : Bool) → (a ≡ true → b ≡ true) → (b ≡ true → a ≡ true) → a ≡ b
both true b f g = sym (f refl)
both false true f g = g refl
both false false f g = refl

never : {A : Type 0} → false ≡ true → A
never e = absurd (let z : ◌≡◌ {A = ℕ} 0 1 = cc in omega arith)

pub carries-is : (p : List ℕ → Bool) (h r : List ℕ) → (carries p h r ≡ true) ↔ ((p r ≡ true) × (carried r ≡ h))
unfolding carries
carries-is p h r = (
  λ e. let w = each_of _ e in (w.0, same-is (carried r) h w.1.0),
  λ w. every_of _ (w.0, (subst (λ (x : List ℕ). same (carried r) x ≡ true) w.1 (same_refl (carried r)), tt)),
)

less-true : (o : Ordering) → choose o true false false ≡ true → o ≡ Less
less-true Less e = refl
less-true Equal e = never e
less-true Greater e = never e

pub after_is : (b : List (List ℕ)) (h r : List ℕ) → (after b h r ≡ true) ↔ ((live b r ≡ true) × (cmp h (carried r) ≡ Less))
unfolding after
after_is b h r = (
  λ e. let w = each_of _ e in (w.0, less-true (cmp h (carried r)) w.1.0),
  λ w. every_of _ (w.0, (ap (λ (o : Ordering). choose o true false false) w.1, tt)),
)

-- ---- the members

module _ (p : List ℕ → Bool) where
  in-carried : (h : List ℕ) (l : List (List ℕ)) → In h (headers p l) ↔ ((r : List ℕ) × In r l × (carries p h r ≡ true))
  in-carried h l = (
    λ m. let w = (in-headers p h l).0 m in (w.0, w.1, (carries-is p h w.0).1 (w.2, w.3)),
    λ w. let v = (carries-is p h w.0).0 w.2 in (in-headers p h l).1 (w.0, w.1, v.0, v.1),
  )

  pub in-ordered : (h : List ℕ) (l : List (List ℕ)) → In h (ordered p l) ↔ ((r : List ℕ) × In r l × (p r ≡ true) × (carried r ≡ h))
  in-ordered h l = (
    λ m. ⊎_elim (λ k. (in-headers p h l).0 k) absurd ((in-insert_all h (headers p l) []).0 m),
    λ w. (in-insert_all h (headers p l) []).1 (inl ((in-headers p h l).1 w)),
  )

  pub ordered-sorted : (l : List (List ℕ)) → Sorted (ordered p l)
  ordered-sorted l = insert_all-sorted (headers p l) [] tt

  headers-length : (l : List (List ℕ)) → length (headers p l) ≤ length l
  headers-length [] = omega arith
  headers-length (r ∷ l) = go (p r) (headers-length l)
    where
      go : (t : Bool) → length (headers p l) ≤ length l → length (pick t (carried r ∷ headers p l) (headers p l)) ≤ suc (length l)
      go true h = omega arith
      go false h = omega arith

  pub ordered-length : (l : List (List ℕ)) → length (ordered p l) ≤ length l
  ordered-length l = le_trans (most (headers p l) []) (omega (arith, headers-length l))
    where
      most : (rs k : List (List ℕ)) → length (insert_all rs k) ≤ length rs + length k
      most [] k = omega arith
      most (r ∷ rs) k = omega (arith, most rs (insert r k), (insert-length r k).1)

  -- ---- the index of a header among those of l

  rest : (h x : List ℕ) (l : List (List ℕ)) → carries p h x ≡ false → In h (headers p (x ∷ l)) → In h (headers p l)
  rest h x l e m =
      let w = (in-carried h (x ∷ l)).0 m in
      ⊎_elim (λ q. never (sym e ∙ ap (carries p h) (sym q) ∙ w.2)) (λ k. (in-carried h l).1 (w.0, k, w.2)) w.1

  more : (h x : List ℕ) (l : List (List ℕ)) → In h (headers p l) → In h (headers p (x ∷ l))
  more h x l m = let w = (in-carried h l).0 m in (in-carried h (x ∷ l)).1 (w.0, inr w.1, w.2)

  index-old : (h : List ℕ) (l : List (List ℕ)) (r : List ℕ) → In h (headers p l) → index_of p h (l ++ (r ∷ [])) ≡ index_of p h l
  index-old h [] r m = absurd m
  index-old h (x ∷ l) r m = go (carries p h x) refl (λ k. index-old h l r k)
    where
      go : (t : Bool) → carries p h x ≡ t → (In h (headers p l) → index_of p h (l ++ (r ∷ [])) ≡ index_of p h l) → pick t zero (suc (index_of p h (l ++ (r ∷ [])))) ≡ pick t zero (suc (index_of p h l))
      go true e ih = refl
      go false e ih = ap suc (ih (rest h x l e m))

  index-new : (h : List ℕ) (l : List (List ℕ)) (r : List ℕ) → (In h (headers p l) → ⊥) → carries p h r ≡ true → index_of p h (l ++ (r ∷ [])) ≡ length l
  index-new h [] r n e = ap (λ (t : Bool). pick t zero (suc zero)) e
  index-new h (x ∷ l) r n e = go (carries p h x) refl (index-new h l r (λ m. n (more h x l m)) e)
    where
      go : (t : Bool) → carries p h x ≡ t → index_of p h (l ++ (r ∷ [])) ≡ length l → pick t zero (suc (index_of p h (l ++ (r ∷ [])))) ≡ suc (length l)
      go true f ih = absurd (n ((in-carried h (x ∷ l)).1 (x, inl refl, f)))
      go false f ih = ap suc ih

  pub index-get : (h : List ℕ) (l : List (List ℕ)) → In h (headers p l) → (index_of p h l < length l) × (carries p h (get_or l (index_of p h l) []) ≡ true)
  index-get h [] m = absurd m
  index-get h (x ∷ l) m = go (carries p h x) refl (λ k. index-get h l k)
    where
      go : (t : Bool) → carries p h x ≡ t → (In h (headers p l) → (index_of p h l < length l) × (carries p h (get_or l (index_of p h l) []) ≡ true))
          → (pick t zero (suc (index_of p h l)) < suc (length l)) × (carries p h (get_or (x ∷ l) (pick t zero (suc (index_of p h l))) []) ≡ true)
      go true e ih = (omega arith, e)
      go false e ih = let w = ih (rest h x l e m) in (omega (arith, w.0), w.1)

  -- ---- the first header of l, and of l with one record more

  headers-snoc : (l : List (List ℕ)) (r : List ℕ) → headers p (l ++ (r ∷ [])) ≡ headers p l ++ pick (p r) (carried r ∷ []) []
  headers-snoc [] r = refl
  headers-snoc (x ∷ l) r = go (p x) (headers-snoc l r)
    where
      go : (t : Bool) → headers p (l ++ (r ∷ [])) ≡ headers p l ++ pick (p r) (carried r ∷ []) []
          → pick t (carried x ∷ headers p (l ++ (r ∷ []))) (headers p (l ++ (r ∷ []))) ≡ pick t (carried x ∷ headers p l) (headers p l) ++ pick (p r) (carried r ∷ []) []
      go true ih = ap (λ (z : List (List ℕ)). carried x ∷ z) ih
      go false ih = ih

  ordered-snoc : (l : List (List ℕ)) (r : List ℕ) (t : Bool) → p r ≡ t → ordered p (l ++ (r ∷ [])) ≡ insert_all (pick t (carried r ∷ []) []) (ordered p l)
  ordered-snoc l r t e =
      ap (λ (z : List (List ℕ)). insert_all z []) (headers-snoc l r)
      ∙ insert_all-append (headers p l) (pick (p r) (carried r ∷ []) []) []
      ∙ ap (λ (u : Bool). insert_all (pick u (carried r ∷ []) []) (ordered p l)) e

  of-ordered : (h : List ℕ) (l : List (List ℕ)) → In h (ordered p l) → In h (headers p l)
  of-ordered h l m = ⊎_elim (λ k. k) absurd ((in-insert_all h (headers p l) []).0 m)

  first-in : (l : List (List ℕ)) (h : List ℕ) (hs : List (List ℕ)) → ordered p l ≡ h ∷ hs → In h (headers p l)
  first-in l h hs f = of-ordered h l (subst (In h) (sym f) (inl refl))

-- what the best of l says
pub data Best (none : ℕ) (p : List ℕ → Bool) (l : List (List ℕ)) : Type 0 where
  nothing : ordered p l ≡ [] → best_of none p l ≡ none → Best none p l
  first : (h : List ℕ) (hs : List (List ℕ)) → ordered p l ≡ h ∷ hs → best_of none p l ≡ index_of p h l → best_of none p l < length l
      → p (get_or l (best_of none p l) []) ≡ true → carried (get_or l (best_of none p l) []) ≡ h → Best none p l

pub best : (none : ℕ) (p : List ℕ → Bool) (l : List (List ℕ)) → Best none p l
unfolding best_of
best none p l = go (ordered p l) refl
  where
    go : (d : List (List ℕ)) → ordered p l ≡ d → Best none p l
    go [] f = nothing f (ap (first_of none p l) f)
    go (h ∷ hs) f =
        let is : best_of none p l ≡ index_of p h l = ap (first_of none p l) f in
        let w = index-get p h l (first-in p l h hs f) in
        let v = (carries-is p h (get_or l (index_of p h l) [])).0 w.1 in
        first h hs f is
        (subst (λ (k : ℕ). k < length l) (sym is) w.0)
        (subst (λ (k : ℕ). p (get_or l k []) ≡ true) (sym is) v.0)
        (subst (λ (k : ℕ). carried (get_or l k []) ≡ h) (sym is) v.1)

module _ (none : ℕ) (p : List ℕ → Bool) (l : List (List ℕ)) (r : List ℕ) where
  -- a record that does not pass changes nothing
  pub best-same : p r ≡ false → best_of none p l ≡ best_of none p (l ++ (r ∷ []))
  unfolding best_of
  best-same e = go (ordered p l) refl ∙ ap (first_of none p (l ++ (r ∷ []))) (sym (ordered-snoc p l r false e))
    where
      go : (d : List (List ℕ)) → ordered p l ≡ d → first_of none p l (ordered p l) ≡ first_of none p (l ++ (r ∷ [])) (ordered p l)
      go [] f = ap (first_of none p l) f ∙ sym (ap (first_of none p (l ++ (r ∷ []))) f)
      go (h ∷ hs) f = ap (first_of none p l) f ∙ sym (index-old p h l r (first-in p l h hs f)) ∙ sym (ap (first_of none p (l ++ (r ∷ []))) f)

  -- the first that passes
  pub best-first : p r ≡ true → ordered p l ≡ [] → length l ≡ best_of none p (l ++ (r ∷ []))
  unfolding best_of
  best-first e f = sym (
      ap (first_of none p (l ++ (r ∷ []))) (ordered-snoc p l r true e ∙ ap (insert (carried r)) f)
      ∙ index-new p (carried r) l r (λ m. subst (In (carried r)) f ((in-insert_all (carried r) (headers p l) []).1 (inl m))) ((carries-is p (carried r) r).1 (e, refl)))

  module _ (e : p r ≡ true) (h : List ℕ) (hs : List (List ℕ)) (f : ordered p l ≡ h ∷ hs) where
    with_it : (o : Ordering) → cmp (carried r) h ≡ o → ordered p (l ++ (r ∷ [])) ≡ choose o (carried r ∷ h ∷ hs) (h ∷ hs) (h ∷ insert (carried r) hs)
    with_it o g = ordered-snoc p l r true e ∙ ap (insert (carried r)) f ∙ ap (λ (x : Ordering). choose x (carried r ∷ h ∷ hs) (h ∷ hs) (h ∷ insert (carried r) hs)) g

    old : index_of p h (l ++ (r ∷ [])) ≡ best_of none p l
    unfolding best_of
    old = index-old p h l r (first-in p l h hs f) ∙ sym (ap (first_of none p l) f)

    pub best-less : Less ≡ cmp (carried r) h → length l ≡ best_of none p (l ++ (r ∷ []))
    unfolding best_of
    best-less g = sym (ap (first_of none p (l ++ (r ∷ []))) (with_it Less (sym g)) ∙ index-new p (carried r) l r fresh ((carries-is p (carried r) r).1 (e, refl)))
      where
        s : Sorted (h ∷ hs)
        s = subst Sorted f (ordered-sorted p l)

        fresh : In (carried r) (headers p l) → ⊥
        fresh m =
            ⊎_elim (λ q. less-same (g ∙ ap (λ (x : List ℕ). cmp x h) q ∙ cmp-refl h)) (λ k. not-before-self h (cmp-trans h (carried r) h (s.0 (carried r) k) (sym g)))
            (subst (In (carried r)) f ((in-insert_all (carried r) (headers p l) []).1 (inl m)))

    pub best-equal : Equal ≡ cmp (carried r) h → best_of none p l ≡ best_of none p (l ++ (r ∷ []))
    best-equal g = sym (unfold best_of in (ap (first_of none p (l ++ (r ∷ []))) (with_it Equal (sym g))) ∙ old)

    pub best-more : Greater ≡ cmp (carried r) h → best_of none p l ≡ best_of none p (l ++ (r ∷ []))
    best-more g = sym (unfold best_of in (ap (first_of none p (l ++ (r ∷ []))) (with_it Greater (sym g))) ∙ old)

-- ---- from one due header to the next

-- tests that agree on the records that carry h
module _ (p q : List ℕ → Bool) (h : List ℕ) (agree : (r : List ℕ) → carried r ≡ h → p r ≡ q r) where
  carries-agree : (r : List ℕ) → carries p h r ≡ carries q h r
  carries-agree r = both (carries p h r) (carries q h r)
      (λ e. let w = (carries-is p h r).0 e in (carries-is q h r).1 (sym (agree r w.1) ∙ w.0, w.1))
      (λ e. let w = (carries-is q h r).0 e in (carries-is p h r).1 (agree r w.1 ∙ w.0, w.1))

  index-agree : (l : List (List ℕ)) → index_of p h l ≡ index_of q h l
  index-agree [] = refl
  index-agree (r ∷ l) = ap₂ (λ (t : Bool) (k : ℕ). pick t zero (suc k)) (carries-agree r) (index-agree l)

  count-agree : (l : List (List ℕ)) → count_of p h l ≡ count_of q h l
  count-agree [] = refl
  count-agree (r ∷ l) = ap₂ (λ (t : Bool) (k : ℕ). pick t (suc k) k) (carries-agree r) (count-agree l)

pub after-start : (b : List (List ℕ)) → ((r : List ℕ) → In r b → cmp [] (carried r) ≡ Less) → ordered (after b []) b ≡ due b
unfolding due
after-start b long = sorted_ext (ordered (after b []) b) (ordered (live b) b) (ordered-sorted (after b []) b) (ordered-sorted (live b) b)
    (λ y m. let w = (in-ordered (after b []) y b).0 m in (in-ordered (live b) y b).1 (w.0, w.1, ((after_is b [] w.0).0 w.2).0, w.3))
    (λ y m. let w = (in-ordered (live b) y b).0 m in (in-ordered (after b []) y b).1 (w.0, w.1, (after_is b [] w.0).1 (w.2, long w.0 w.1), w.3))

module _ (b : List (List ℕ)) (g h : List ℕ) (hs : List (List ℕ)) (f : ordered (after b g) b ≡ h ∷ hs) where
  -- the first header comes after g
  comes-after : cmp g h ≡ Less
  comes-after =
      let w = (in-ordered (after b g) h b).0 (subst (In h) (sym f) (inl refl)) in
      subst (λ (x : List ℕ). cmp g x ≡ Less) w.3 ((after_is b g w.0).0 w.2).1

  pub after_next : ordered (after b h) b ≡ hs
  after_next = sorted_ext (ordered (after b h) b) hs (ordered-sorted (after b h) b) s.1
      (λ y m.
      let w = (in-ordered (after b h) y b).0 m in
      let v = (after_is b h w.0).0 w.2 in
      let k : In y (ordered (after b g) b) = (in-ordered (after b g) y b).1 (w.0, w.1, (after_is b g w.0).1 (v.0, cmp-trans g h (carried w.0) comes-after v.1), w.3) in
      ⊎_elim (λ q. not-before-self h (subst (λ (x : List ℕ). cmp h x ≡ Less) (w.3 ∙ q) v.1)) (λ n. n) (subst (In y) f k))
      (λ y m.
      let w = (in-ordered (after b g) y b).0 (subst (In y) (sym f) (inr m)) in
      (in-ordered (after b h) y b).1 (w.0, w.1, (after_is b h w.0).1 (((after_is b g w.0).0 w.2).0, subst (λ (x : List ℕ). cmp h x ≡ Less) (sym w.3) (s.0 y m)), w.3))
    where
      s : Sorted (h ∷ hs)
      s = subst Sorted f (ordered-sorted (after b g) b)

  pub row-index : index_of (after b g) h b ≡ index_of (live b) h b
  row-index = index-agree (after b g) (live b) h (λ r e. both (after b g r) (live b r) (λ t. ((after_is b g r).0 t).0) (λ t. (after_is b g r).1 (t, subst (λ (x : List ℕ). cmp g x ≡ Less) (sym e) comes-after))) b

pub row_count : (b : List (List ℕ)) (h : List ℕ) → (In (aired h) b → ⊥) → count_of (live b) h b ≡ count_of (unwithdrawn b) h b
row_count b h n = count-agree (live b) (unwithdrawn b) h (λ r e. both (live b r) (unwithdrawn b r)
    (λ t. (unwithdrawn-is b r).1 ((live-is b r).0 t).0)
    (λ t. (live-is b r).1 ((unwithdrawn-is b r).0 t, λ m. n (subst (λ (x : List ℕ). In (aired x) b) e m)))) b
