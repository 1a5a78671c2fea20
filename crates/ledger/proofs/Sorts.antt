-- Strictly ascending lists are finite sets.
--     sorted_ext                  two with the same members are equal
--     in-insert_all               the members of an insertion
--     insert-behind               what stands before an insertion
--     insert-held, insert-new     how an insertion counts
--     has_in, ascending-sorted    what the tests say
use Prim.Native.Nat.{ℕ, zero, suc, ◌≤◌, ◌<◌}
use mathlib.Core.Bool.{Bool, true, false, not}
use mathlib.Core.Path.{◌≡◌, refl, sym, ap, ap₂, ◌∙◌, subst}
use mathlib.Core.Logic.{◌⊎◌, inl, inr, ⊎_elim, ◌↔◌}
use mathlib.Core.List.{List, [], ◌∷◌, ◌++◌, map}
use native.Mathlib.Nat.{le_refl, le_trans, le_of_suc-le-suc}
use native.Mathlib.Omega.{arith}
use lib.ListN.{length, get_or}
use Rattle.std.specs.declared.cmp.Ordering.{Ordering}
use Rattle.std.specs.declared.cmp.Ordering.TheVariants.{Less, Equal, Greater}
use Rattle.octets.specs.Bytes.{every}
use Rattle.octets.specs.Order.{cmp, choose}
use Rattle.octets.proofs.Orders.{cmp-refl, cmp-same, cmp-flip, cmp-trans, less-same, more_same, flip}
use Rattle.octets.proofs.Tests.{every_first, every_rest, every-step, every-none}
use Rattle.ledger.specs.Sorted.{In, has, Before, Sorted, ascending, insert, insert_all}

-- nothing is before itself
pub not-before-self : {A : Type 0} (a : List ℕ) → cmp a a ≡ Less → A
not-before-self a e = less-same (sym e ∙ cmp-refl a)

-- the members of an insertion
pub in_insert : (y a : List ℕ) (l : List (List ℕ)) → In y (insert a l) ↔ ((y ≡ a) ⊎ In y l)
in_insert y a [] = (λ m. m, λ m. m)
in_insert y a (x ∷ xs) = go (cmp a x) refl (in_insert y a xs)
  where
    go : (o : Ordering) → cmp a x ≡ o → (In y (insert a xs) ↔ ((y ≡ a) ⊎ In y xs)) → In y (choose o (a ∷ x ∷ xs) (x ∷ xs) (x ∷ insert a xs)) ↔ ((y ≡ a) ⊎ ((y ≡ x) ⊎ In y xs))
    go Less e ih = (λ m. m, λ m. m)
    go Equal e ih = (inr, ⊎_elim (λ p. inl (p ∙ cmp-same a x e)) (λ m. m))
    go Greater e ih = (
      ⊎_elim (λ p. inr (inl p)) (λ m. ⊎_elim inl (λ k. inr (inr k)) (ih.0 m)),
      ⊎_elim (λ p. inr (ih.1 (inl p))) (⊎_elim inl (λ k. inr (ih.1 (inr k)))),
    )

in-get : (l : List (List ℕ)) (i : ℕ) → i < length l → In (get_or l i []) l
in-get [] i h = absurd (omega arith)
in-get (x ∷ l) zero h = inl refl
in-get (x ∷ l) (suc i) h = inr (in-get l i (le_of_suc-le-suc h))

pub insert-sorted : (a : List ℕ) (l : List (List ℕ)) → Sorted l → Sorted (insert a l)
insert-sorted a [] s = (λ y m. absurd m, tt)
insert-sorted a (x ∷ xs) s = go (cmp a x) refl (insert-sorted a xs s.1)
  where
    go : (o : Ordering) → cmp a x ≡ o → Sorted (insert a xs) → Sorted (choose o (a ∷ x ∷ xs) (x ∷ xs) (x ∷ insert a xs))
    go Less e ih = (λ y. ⊎_elim (λ p. subst (λ (z : List ℕ). cmp a z ≡ Less) (sym p) e) (λ m. cmp-trans a x y e (s.0 y m)), s)
    go Equal e ih = s
    go Greater e ih = (λ y m. ⊎_elim (λ p. subst (λ (z : List ℕ). cmp x z ≡ Less) (sym p) (cmp-flip a x ∙ ap flip e)) (λ k. s.0 y k) ((in_insert y a xs).0 m), ih)

pub insert_all-sorted : (rs l : List (List ℕ)) → Sorted l → Sorted (insert_all rs l)
insert_all-sorted [] l s = s
insert_all-sorted (r ∷ rs) l s = insert_all-sorted rs (insert r l) (insert-sorted r l s)

pub in-insert_all : (y : List ℕ) (rs l : List (List ℕ)) → In y (insert_all rs l) ↔ (In y rs ⊎ In y l)
in-insert_all y [] l = (inr, ⊎_elim absurd (λ m. m))
in-insert_all y (r ∷ rs) l = go (in-insert_all y rs (insert r l)) (in_insert y r l)
  where
    go : (In y (insert_all rs (insert r l)) ↔ (In y rs ⊎ In y (insert r l))) → (In y (insert r l) ↔ ((y ≡ r) ⊎ In y l)) → In y (insert_all rs (insert r l)) ↔ (((y ≡ r) ⊎ In y rs) ⊎ In y l)
    go f g = (
      λ m. ⊎_elim (λ k. inl (inr k)) (λ k. ⊎_elim (λ p. inl (inl p)) inr (g.0 k)) (f.0 m),
      ⊎_elim (⊎_elim (λ p. f.1 (inr (g.1 (inl p)))) (λ k. f.1 (inl k))) (λ k. f.1 (inr (g.1 (inr k)))),
    )

-- two strictly ascending lists with the same members are equal
pub sorted_ext : (a b : List (List ℕ)) → Sorted a → Sorted b → ((y : List ℕ) → In y a → In y b) → ((y : List ℕ) → In y b → In y a) → a ≡ b
sorted_ext [] [] s t f g = refl
sorted_ext [] (y ∷ ys) s t f g = absurd (g y (inl refl))
sorted_ext (x ∷ xs) [] s t f g = absurd (f x (inl refl))
sorted_ext (x ∷ xs) (y ∷ ys) s t f g = ap₂ ◌∷◌ head (sorted_ext xs ys s.1 t.1 tailf tailg)
  where
    head : x ≡ y
    head = ⊎_elim (λ p. p) (λ m. ⊎_elim sym (λ k. not-before-self x (cmp-trans x y x (s.0 y k) (t.0 x m))) (g y (inl refl))) (f x (inl refl))

    tailf : (z : List ℕ) → In z xs → In z ys
    tailf z m = ⊎_elim (λ p. not-before-self x (subst (λ (w : List ℕ). cmp x w ≡ Less) (p ∙ sym head) (s.0 z m))) (λ k. k) (f z (inr m))

    tailg : (z : List ℕ) → In z ys → In z xs
    tailg z m = ⊎_elim (λ p. not-before-self y (subst (λ (w : List ℕ). cmp y w ≡ Less) (p ∙ head) (t.0 z m))) (λ k. k) (g z (inr m))

-- what stands before the place of an insertion stays where it is
pub insert-behind : (a : List ℕ) (l : List (List ℕ)) (i : ℕ) → Sorted l → i < length l → cmp a (get_or l i []) ≡ Greater → get_or (insert a l) i [] ≡ get_or l i []
insert-behind a [] i s h e = absurd (omega arith)
insert-behind a (x ∷ xs) zero s h e = ap (λ (o : Ordering). get_or (choose o (a ∷ x ∷ xs) (x ∷ xs) (x ∷ insert a xs)) zero []) e
insert-behind a (x ∷ xs) (suc i) s h e =
    ap (λ (o : Ordering). get_or (choose o (a ∷ x ∷ xs) (x ∷ xs) (x ∷ insert a xs)) (suc i) []) behind
    ∙ insert-behind a xs i s.1 (le_of_suc-le-suc h) e
  where
    before : cmp x a ≡ Less
    before = cmp-trans x (get_or xs i []) a (s.0 (get_or xs i []) (in-get xs i (le_of_suc-le-suc h))) (cmp-flip a (get_or xs i []) ∙ ap flip e)

    behind : cmp a x ≡ Greater
    behind = cmp-flip x a ∙ ap flip before

-- ---- how an insertion counts

pub insert-held : (a : List ℕ) (l : List (List ℕ)) → Sorted l → In a l → insert a l ≡ l
insert-held a l s m = sorted_ext (insert a l) l (insert-sorted a l s) s (λ y k. ⊎_elim (λ p. subst (λ (x : List ℕ). In x l) (sym p) m) (λ n. n) ((in_insert y a l).0 k)) (λ y k. (in_insert y a l).1 (inr k))

pub insert-new : (a : List ℕ) (l : List (List ℕ)) → (In a l → ⊥) → length (insert a l) ≡ suc (length l)
insert-new a [] n = refl
insert-new a (x ∷ xs) n = go (cmp a x) refl (insert-new a xs (λ m. n (inr m)))
  where
    go : (o : Ordering) → cmp a x ≡ o → length (insert a xs) ≡ suc (length xs) → length (choose o (a ∷ x ∷ xs) (x ∷ xs) (x ∷ insert a xs)) ≡ suc (suc (length xs))
    go Less e ih = refl
    go Equal e ih = absurd (n (inl (cmp-same a x e)))
    go Greater e ih = ap suc ih

pub insert-length : (a : List ℕ) (l : List (List ℕ)) → (length l ≤ length (insert a l)) × (length (insert a l) ≤ suc (length l))
insert-length a [] = (omega arith, omega arith)
insert-length a (x ∷ xs) = go (cmp a x) (insert-length a xs)
  where
    go : (o : Ordering) → (length xs ≤ length (insert a xs)) × (length (insert a xs) ≤ suc (length xs))
        → (suc (length xs) ≤ length (choose o (a ∷ x ∷ xs) (x ∷ xs) (x ∷ insert a xs))) × (length (choose o (a ∷ x ∷ xs) (x ∷ xs) (x ∷ insert a xs)) ≤ suc (suc (length xs)))
    go Less ih = (omega arith, omega arith)
    go Equal ih = (omega arith, omega arith)
    go Greater ih = (omega arith, omega arith)

pub insert_all-grows : (rs l : List (List ℕ)) → length l ≤ length (insert_all rs l)
insert_all-grows [] l = le_refl (length l)
insert_all-grows (r ∷ rs) l = le_trans (insert-length r l).0 (insert_all-grows rs (insert r l))

pub insert_all-append : (a b l : List (List ℕ)) → insert_all (a ++ b) l ≡ insert_all b (insert_all a l)
insert_all-append [] b l = refl
insert_all-append (r ∷ a) b l = insert_all-append a b (insert r l)

-- ---- the tests

pub has_in : (a : List ℕ) (l : List (List ℕ)) → (has a l ≡ true) ↔ In a l
has_in a [] = (λ e. absurd (let z : ◌≡◌ {A = ℕ} 0 1 = cc in omega arith), absurd)
has_in a (x ∷ xs) = go (cmp a x) refl (has_in a xs)
  where
    go : (o : Ordering) → cmp a x ≡ o → ((has a xs ≡ true) ↔ In a xs) → (choose o (has a xs) true (has a xs) ≡ true) ↔ ((a ≡ x) ⊎ In a xs)
    go Less e f = (λ t. inr (f.0 t), ⊎_elim (λ p. less-same (sym e ∙ ap (cmp a) (sym p) ∙ cmp-refl a)) f.1)
    go Equal e f = (λ t. inl (cmp-same a x e), λ m. refl)
    go Greater e f = (λ t. inr (f.0 t), ⊎_elim (λ p. more_same (sym e ∙ ap (cmp a) (sym p) ∙ cmp-refl a)) f.1)

pub has-not : (a : List ℕ) (l : List (List ℕ)) → (not (has a l) ≡ true) ↔ (In a l → ⊥)
has-not a l = go (has a l) (has_in a l)
  where
    go : (t : Bool) → ((t ≡ true) ↔ In a l) → (not t ≡ true) ↔ (In a l → ⊥)
    go true f = (λ e m. let z : ◌≡◌ {A = ℕ} 0 1 = cc in omega arith, λ g. absurd (g (f.0 refl)))
    go false f = (λ e m. let q : false ≡ true = f.1 m in let z : ◌≡◌ {A = ℕ} 0 1 = cc in omega arith, λ g. refl)

pub ascending-sorted : (l : List (List ℕ)) → ascending l ≡ true → Sorted l
ascending-sorted [] e = tt
ascending-sorted (x ∷ []) e = (λ y m. absurd m, tt)
ascending-sorted (x ∷ (y ∷ l)) e = go (cmp x y) refl e (ascending-sorted (y ∷ l))
  where
    before : cmp x y ≡ Less → Sorted (y ∷ l) → Before x (y ∷ l)
    before c s z = ⊎_elim (λ p. subst (λ (w : List ℕ). cmp x w ≡ Less) (sym p) c) (λ m. cmp-trans x y z c (s.0 z m))

    go : (o : Ordering) → cmp x y ≡ o → choose o (ascending (y ∷ l)) false false ≡ true → (ascending (y ∷ l) ≡ true → Sorted (y ∷ l)) → Sorted (x ∷ (y ∷ l))
    go Less c t ih = (before c (ih t), ih t)
    go Equal c t ih = absurd (let z : ◌≡◌ {A = ℕ} 0 1 = cc in omega arith)
    go Greater c t ih = absurd (let z : ◌≡◌ {A = ℕ} 0 1 = cc in omega arith)

pub sorted-ascending : (l : List (List ℕ)) → Sorted l → ascending l ≡ true
sorted-ascending [] s = refl
sorted-ascending (x ∷ []) s = refl
sorted-ascending (x ∷ (y ∷ l)) s = ap (λ (o : Ordering). choose o (ascending (y ∷ l)) false false) (s.0 y (inl refl)) ∙ sorted-ascending (y ∷ l) s.1

-- ---- members

pub in-append : {A : Type 0} (y : A) (xs ys : List A) → In y (xs ++ ys) ↔ (In y xs ⊎ In y ys)
in-append y [] ys = (inr, ⊎_elim absurd (λ m. m))
in-append y (x ∷ xs) ys = go (in-append y xs ys)
  where
    go : (In y (xs ++ ys) ↔ (In y xs ⊎ In y ys)) → ((y ≡ x) ⊎ In y (xs ++ ys)) ↔ (((y ≡ x) ⊎ In y xs) ⊎ In y ys)
    go f = (
      ⊎_elim (λ p. inl (inl p)) (λ m. ⊎_elim (λ k. inl (inr k)) inr (f.0 m)),
      ⊎_elim (⊎_elim inl (λ k. inr (f.1 (inl k)))) (λ k. inr (f.1 (inr k))),
    )

pub in_map : {A B : Type 0} (f : A → B) (y : B) (l : List A) → In y (map f l) ↔ ((x : A) × In x l × (y ≡ f x))
in_map f y [] = (absurd, λ w. absurd w.1)
in_map {A} f y (x ∷ xs) = go (in_map f y xs)
  where
    go : (In y (map f xs) ↔ ((x : A) × In x xs × (y ≡ f x))) → ((y ≡ f x) ⊎ In y (map f xs)) ↔ ((z : A) × ((z ≡ x) ⊎ In z xs) × (y ≡ f z))
    go g = (
      ⊎_elim (λ p. (x, inl refl, p)) (λ m. ((g.0 m).0, inr (g.0 m).1, (g.0 m).2)),
      λ w. ⊎_elim (λ p. inl (w.2 ∙ ap f p)) (λ m. inr (g.1 (w.0, m, w.2))) w.1,
    )

-- a test of every member
pub every_in : {A : Type 0} (f : A → Bool) (l : List A) → every f l ≡ true → (x : A) → In x l → f x ≡ true
every_in f [] h x m = absurd m
every_in f (y ∷ l) h x m = ⊎_elim (λ p. ap f p ∙ every_first f y l h) (λ k. every_in f l (every_rest f y l h) x k) m

pub in-every : {A : Type 0} (f : A → Bool) (l : List A) → ((x : A) → In x l → f x ≡ true) → every f l ≡ true
in-every f [] w = every-none f
in-every f (y ∷ l) w = every-step f y l (w y (inl refl)) ∙ in-every f l (λ x m. w x (inr m))
