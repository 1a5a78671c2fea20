-- Lent bytes as records.
--     recs-get, recs-drop, recs-snoc    the records of bytes, one by one
--     recs-flat, flat-all               records and their bytes
--     held_bytes, new-bytes             what an addition leaves
--     held-now, next-rest               a batch added, record by record
use Prim.Native.Nat.{ℕ, zero, suc, ◌+◌, ◌*◌, ◌-◌, ◌≤◌, ◌<◌}
use mathlib.Core.Bool.{Bool, true, false, not, ◌||◌, true≢false}
use mathlib.Core.Path.{◌≡◌, refl, sym, ap, ap₂, ◌∙◌}
use mathlib.Core.Logic.{inl, inr, ⊎_elim}
use mathlib.Core.List.{List, [], ◌∷◌, ◌++◌, append_assoc}
use native.Mathlib.Nat.{le_of_suc-le-suc, not-suc-le-zero, le_refl, le_of_eq, zero-add, add-zero, suc-add}
use native.Mathlib.Numerals.{add-one}
use native.Mathlib.Omega.{arith}
use lib.ListN.{length, get_or, take, drop, length-take, length-drop, length-append, take-append-drop, drop_of_length-le}
use lib.Seq.{sets, sets-eq, take-append-le, take-take, take_at, drop_at, drop-cons, slice, length-take-le, get_or-take, get_or-drop, drop-drop, take-add, take_all, take-nil}
use Rattle.std.specs.declared.cmp.Ordering.{Ordering}
use Rattle.std.specs.declared.cmp.Ordering.TheVariants.{Less, Equal, Greater}
use Rattle.octets.specs.Bytes.{pick}
use Rattle.octets.specs.Order.{cmp, choose}
use Rattle.octets.proofs.Parts.{length_part}
use Rattle.records.specs.Record.{kind}
use Rattle.ledger.specs.Sorted.{In, has, Sorted, insert, insert_all}
use Rattle.ledger.proofs.Sorts.{in-insert_all, insert_all-sorted, insert-held, insert-new, insert_all-grows, insert_all-append, has_in}
use Rattle.std.specs.Prelude.{Result, Ok, Err}
use Rattle.std.specs.Simd.{first_chunks}
use Rattle.std.specs.List.{list_any, copy_within}
use Rattle.std.specs.Ordering.{is_eq}
use Rattle.slots.specs.WorkingSlots.{rec, flat, later, place_of}
use Rattle.slots.specs.Slots.{recs}

-- ---- the records of bytes

pub recs-length : (n : ℕ) (s : List ℕ) → length (recs n s) ≡ n
recs-length zero s = refl
recs-length (suc n) s = ap suc (recs-length n (drop 384 s))

pub recs-get : (n i : ℕ) (s : List ℕ) → i < n → get_or (recs n s) i [] ≡ rec i s
recs-get zero i s h = absurd (not-suc-le-zero h)
recs-get (suc n) zero s h = refl
recs-get (suc n) (suc i) s h = recs-get n i (drop 384 s) (le_of_suc-le-suc h) ∙ ap (take 384) (drop-drop (i * 384) 384 s ∙ ap (λ (k : ℕ). drop k s) (let q : 384 + i * 384 ≡ suc i * 384 = omega arith in q))

pub recs-chunks : (n : ℕ) (s : List ℕ) → first_chunks 384 n s ≡ recs n s
recs-chunks zero s = refl
recs-chunks (suc n) s = ap (λ (l : List (List ℕ)). take 384 s ∷ l) (recs-chunks n (drop 384 s))

pub recs-first : (n m : ℕ) (s : List ℕ) → n ≤ m → take n (recs m s) ≡ recs n s
recs-first zero m s h = refl
recs-first (suc n) zero s h = absurd (not-suc-le-zero h)
recs-first (suc n) (suc m) s h = ap (λ (l : List (List ℕ)). take 384 s ∷ l) (recs-first n m (drop 384 s) (le_of_suc-le-suc h))

-- item i of the first n records
pub item : (l : List (List ℕ)) (n i : ℕ) (s : List ℕ) → l ≡ recs n s → i < length l → (i < n) × (get_or l i [] ≡ rec i s)
item l n i s e h =
    let k : i < n = omega (arith, ap length e, recs-length n s) in
    (k, ap (λ (m : List (List ℕ)). get_or m i []) e ∙ recs-get n i s k)

pub recs-drop : (n i : ℕ) (s : List ℕ) → i < n → drop i (recs n s) ≡ rec i s ∷ drop (i + 1) (recs n s)
recs-drop n i s h = drop-cons (recs n s) i [] (rw recs-length h) ∙ ap₂ ◌∷◌ (recs-get n i s h) (ap (λ (k : ℕ). drop k (recs n s)) (sym (add-one i)))

pub recs-snoc : (i : ℕ) (s : List ℕ) → recs (suc i) s ≡ recs i s ++ (rec i s ∷ [])
recs-snoc zero s = refl
recs-snoc (suc i) s =
    ap (λ (l : List (List ℕ)). take 384 s ∷ l) (recs-snoc i (drop 384 s) ∙ ap (λ (r : List ℕ). recs i (drop 384 s) ++ (take 384 r ∷ [])) (drop-drop (i * 384) 384 s ∙ ap (λ (k : ℕ). drop k s) (let q : 384 + i * 384 ≡ suc i * 384 = omega arith in q)))

pub recs-more : (i d : ℕ) (t : List ℕ) → recs (i + d) t ≡ recs i t ++ recs d (drop (i * 384) t)
recs-more zero d t = ap (λ (k : ℕ). recs k t) (zero-add d)
recs-more (suc i) d t =
    ap (λ (k : ℕ). recs k t) (suc-add i d)
    ∙ ap (λ (l : List (List ℕ)). take 384 t ∷ l) (recs-more i d (drop 384 t) ∙ ap (λ (x : List ℕ). recs i (drop 384 t) ++ recs d x) (drop-drop (i * 384) 384 t ∙ ap (λ (k : ℕ). drop k t) (let q : 384 + i * 384 ≡ suc i * 384 = omega arith in q)))

pub in-recs : (r : List ℕ) (n : ℕ) (s : List ℕ) → n * 384 ≤ length s → In r (recs n s) → length r ≡ 384
in-recs r zero s h m = absurd m
in-recs r (suc n) s h m = ⊎_elim (λ p. ap length p ∙ length-take-le 384 s (omega arith)) (λ k. in-recs r n (drop 384 s) (rw length-drop (omega arith)) k) m

pub rec-long : (s : List ℕ) (i : ℕ) → (i + 1) * 384 ≤ length s → length (rec i s) ≡ 384
rec-long s i h = length_part s (i * 384) 384 (omega arith)

-- the slice of a record, as a range takes it
pub part-rec : (s : List ℕ) (i : ℕ) → take (i * 384 + 384 - i * 384) (drop (i * 384) s) ≡ rec i s
part-rec s i = ap (λ (k : ℕ). take k (drop (i * 384) s)) (let q : i * 384 + 384 - i * 384 ≡ 384 = omega arith in q)

pub kind-rec : (s : List ℕ) (i : ℕ) → kind (rec i s) ≡ get_or s (i * 384) 0
kind-rec s i = get_or-take 384 (drop (i * 384) s) 0 0 (omega arith) ∙ get_or-drop (i * 384) s 0 0 ∙ ap (λ (k : ℕ). get_or s k 0) (add-zero (i * 384))

-- ---- records and their bytes

pub drop-take : (a m : ℕ) (s : List ℕ) → drop a (take (a + m) s) ≡ take m (drop a s)
drop-take zero m s = ap (λ (k : ℕ). take k s) (zero-add m)
drop-take (suc a) m [] = ap (drop (suc a)) (take-nil (suc a + m)) ∙ sym (take-nil m)
drop-take (suc a) m (x ∷ s) = rw suc-add (drop-take a m s)

-- w bytes from byte o of record i on
pub rec-part : (s : List ℕ) (i o w : ℕ) → o + w ≤ 384 → take (i * 384 + (o + w) - (i * 384 + o)) (drop (i * 384 + o) s) ≡ take w (drop o (rec i s))
rec-part s i o w h =
    ap₂ take (let q : i * 384 + (o + w) - (i * 384 + o) ≡ w = omega arith in q) (sym (drop-drop o (i * 384) s))
    ∙ sym (
    ap (λ (k : ℕ). take w (drop o (take k (drop (i * 384) s)))) (let q : 384 ≡ o + (384 - o) = omega arith in q)
    ∙ ap (take w) (drop-take o (384 - o) (drop (i * 384) s))
    ∙ take-take w (384 - o) (drop o (drop (i * 384) s)) (omega arith))

pub flat-take : (k n : ℕ) (s : List ℕ) → k ≤ n → flat (take k (recs n s)) ≡ take (k * 384) s
flat-take zero n s h = refl
flat-take (suc k) zero s h = absurd (not-suc-le-zero h)
flat-take (suc k) (suc n) s h =
    ap (λ (l : List ℕ). take 384 s ++ l) (flat-take k n (drop 384 s) (le_of_suc-le-suc h))
    ∙ sym (take-add 384 (k * 384) s)
    ∙ ap (λ (m : ℕ). take m s) (let q : 384 + k * 384 ≡ suc k * 384 = omega arith in q)

pub flat-all : (n : ℕ) (s : List ℕ) → flat (recs n s) ≡ take (n * 384) s
flat-all n s = ap flat (sym (take_all n (recs n s) (le_of_eq (recs-length n s)))) ∙ flat-take n n s (le_refl n)

pub flat-drop : (k n : ℕ) (s : List ℕ) → k ≤ n → flat (drop k (recs n s)) ≡ slice (k * 384) (n * 384) s
flat-drop zero n s h = flat-all n s
flat-drop (suc k) zero s h = absurd (not-suc-le-zero h)
flat-drop (suc k) (suc n) s h =
    flat-drop k n (drop 384 s) (le_of_suc-le-suc h)
    ∙ ap (drop (k * 384)) (sym (drop-take 384 (n * 384) s))
    ∙ drop-drop (k * 384) 384 (take (384 + n * 384) s)
    ∙ ap₂ (λ (a m : ℕ). drop a (take m s)) (let q : 384 + k * 384 ≡ suc k * 384 = omega arith in q) (let q : 384 + n * 384 ≡ suc n * 384 = omega arith in q)

pub recs-flat : (l : List (List ℕ)) (t : List ℕ) → ((r : List ℕ) → In r l → length r ≡ 384) → recs (length l) (flat l ++ t) ≡ l
recs-flat [] t w = refl
recs-flat (r ∷ l) t w =
    ap₂ ◌∷◌ (ap (take 384) (append_assoc r (flat l) t) ∙ take_at r (flat l ++ t) 384 (w r (inl refl)))
    (ap (recs (length l)) (ap (drop 384) (append_assoc r (flat l) t) ∙ drop_at r (flat l ++ t) 384 (w r (inl refl))) ∙ recs-flat l t (λ x m. w x (inr m)))

pub flat-length : (l : List (List ℕ)) → ((r : List ℕ) → In r l → length r ≡ 384) → length (flat l) ≡ length l * 384
flat-length [] w = refl
flat-length (r ∷ l) w = let a = length-append r (flat l) in let b = w r (inl refl) in let d = flat-length l (λ x m. w x (inr m)) in omega arith

pub start-bytes : (n : ℕ) (s : List ℕ) → s ≡ flat (recs n s) ++ drop (n * 384) s
start-bytes n s = sym (ap (λ (l : List ℕ). l ++ drop (n * 384) s) (flat-all n s) ∙ take-append-drop (n * 384) s)

-- ---- a place, and the insertion that it stands for

abbrev pub insert_at : Result ℕ ℕ → List ℕ → List (List ℕ) → List (List ℕ)
insert_at (Err k) r l = take k l ++ r ∷ drop k l
insert_at (Ok k) r l = l

later-insert : (p : Result ℕ ℕ) (r x : List ℕ) (l : List (List ℕ)) → insert_at (later p) r (x ∷ l) ≡ x ∷ insert_at p r l
later-insert (Err k) r x l = refl
later-insert (Ok k) r x l = refl

pub place-insert : (r : List ℕ) (l : List (List ℕ)) → insert_at (place_of r l) r l ≡ insert r l
place-insert r [] = refl
place-insert r (x ∷ xs) = go (cmp r x) (place-insert r xs)
  where
    go : (o : Ordering) → insert_at (place_of r xs) r xs ≡ insert r xs
        → insert_at (choose o (Err 0) (Ok 0) (later (place_of r xs))) r (x ∷ xs) ≡ choose o (r ∷ x ∷ xs) (x ∷ xs) (x ∷ insert r xs)
    go Less ih = refl
    go Equal ih = refl
    go Greater ih = later-insert (place_of r xs) r x xs ∙ ap (λ (l : List (List ℕ)). x ∷ l) ih

-- a new place is within the list
pub place-within : (r : List ℕ) (l : List (List ℕ)) (k : ℕ) → place_of r l ≡ Err k → k ≤ length l
place-within r [] k e = let q : 0 ≡ k = cc in omega arith
place-within r (x ∷ xs) k e = go (cmp r x) (place_of r xs) refl (place-within r xs) e
  where
    go : (o : Ordering) (p : Result ℕ ℕ) → place_of r xs ≡ p → ((j : ℕ) → place_of r xs ≡ Err j → j ≤ length xs) → choose o (Err 0) (Ok 0) (later p) ≡ Err k → k ≤ suc (length xs)
    go Less p d ih e = let q : 0 ≡ k = cc in omega arith
    go Equal p d ih e = absurd (let z : ◌≡◌ {A = ℕ} 0 1 = cc in omega arith)
    go Greater (Err j) d ih e = let q : suc j ≡ k = cc in omega (arith, ih j d)
    go Greater (Ok j) d ih e = absurd (let z : ◌≡◌ {A = ℕ} 0 1 = cc in omega arith)

-- i records on
abbrev pub laters : ℕ → Result ℕ ℕ → Result ℕ ℕ
laters i (Err k) = Err (i + k)
laters i (Ok k) = Ok (i + k)

laters-later : (i : ℕ) (p : Result ℕ ℕ) → laters i (later p) ≡ laters (i + 1) p
laters-later i (Err k) = ap Err (let q : i + suc k ≡ i + 1 + k = omega arith in q)
laters-later i (Ok k) = ap Ok (let q : i + suc k ≡ i + 1 + k = omega arith in q)

pub laters-none : (p : Result ℕ ℕ) → p ≡ laters 0 p
laters-none (Err k) = ap Err (sym (zero-add k))
laters-none (Ok k) = ap Ok (sym (zero-add k))

-- ---- a look for the place of r that has passed i records

module _ (r s : List ℕ) (n i : ℕ) (l : List (List ℕ)) (are : l ≡ recs n s) (so : place_of r (recs n s) ≡ laters i (place_of r (drop i (recs n s)))) where
  within : i < length l → i < n
  within h = omega (arith, ap length are, recs-length n s)

  by_order : (o : Ordering) → o ≡ cmp r (get_or l i []) → i < length l → place_of r (recs n s) ≡ laters i (choose o (Err 0) (Ok 0) (later (place_of r (drop (i + 1) (recs n s)))))
  by_order o e h =
      so
      ∙ ap (λ (k : List (List ℕ)). laters i (place_of r k)) (recs-drop n i s (within h))
      ∙ ap (λ (p : Ordering). laters i (choose p (Err 0) (Ok 0) (later (place_of r (drop (i + 1) (recs n s)))))) (sym (e ∙ ap (cmp r) (ap (λ (k : List (List ℕ)). get_or k i []) are ∙ recs-get n i s (within h))))

  pub scan-less : Less ≡ cmp r (get_or l i []) → i < length l → Err i ≡ place_of r (recs n s)
  scan-less e h = sym (by_order Less e h ∙ ap Err (add-zero i))

  pub scan-same : Equal ≡ cmp r (get_or l i []) → i < length l → Ok i ≡ place_of r (recs n s)
  scan-same e h = sym (by_order Equal e h ∙ ap Ok (add-zero i))

  pub scan-more : Greater ≡ cmp r (get_or l i []) → i < length l → place_of r (recs n s) ≡ laters (i + 1) (place_of r (drop (i + 1) (recs n s)))
  scan-more e h = by_order Greater e h ∙ laters-later i (place_of r (drop (i + 1) (recs n s)))

  pub scan-end : length l ≤ i → i ≤ length l → Err n ≡ place_of r (recs n s)
  scan-end h k =
      let q : i ≡ n = omega (arith, ap length are, recs-length n s) in
      sym (so ∙ ap (λ (m : List (List ℕ)). laters i (place_of r m)) (drop_of_length-le (recs n s) {i = i} (rw recs-length (omega arith))) ∙ ap Err (add-zero i ∙ q))

-- ---- a look for r

pub has-any : (r : List ℕ) (l : List (List ℕ)) → list_any (λ x. is_eq (cmp r x)) l ≡ has r l
has-any r [] = refl
has-any r (x ∷ l) = go (cmp r x) (has-any r l)
  where
    go : (o : Ordering) → list_any (λ x. is_eq (cmp r x)) l ≡ has r l → (is_eq o || list_any (λ x. is_eq (cmp r x)) l) ≡ choose o (has r l) true (has r l)
    go Less h = h
    go Equal h = refl
    go Greater h = h

-- ---- one record added

-- bytes moved up by a record
pub moved : (s : List ℕ) (from to : ℕ) → from ≤ to → copy_within s from to (from + 384) ≡ take (from + 384) s ++ (slice from to s ++ drop (to + 384) s)
moved s from to h =
    let q : from + 384 + (to - from) ≡ to + 384 = omega arith in
    let e : take (to - from) (drop from s) ≡ slice from to s = sym (drop-take from (to - from) s) ∙ ap (λ (k : ℕ). drop from (take k s)) (let z : from + (to - from) ≡ to = omega arith in z) in
    append_assoc (take (from + 384) s) (take (to - from) (drop from s)) (drop (from + 384 + (to - from)) s)
    ∙ ap₂ (λ (a : List ℕ) (k : ℕ). take (from + 384) s ++ (a ++ drop k s)) e q

flat_append : (a b : List (List ℕ)) → flat (a ++ b) ≡ flat a ++ flat b
flat_append [] b = refl
flat_append (r ∷ a) b = ap (λ (l : List ℕ). r ++ l) (flat_append a b) ∙ sym (append_assoc r (flat a) (flat b))

-- a record that is held: nothing changes
module _ (s r : List ℕ) (n k : ℕ) (at : Ok k ≡ place_of r (recs n s)) where
  pub held_same : insert r (recs n s) ≡ recs n s
  held_same = sym (place-insert r (recs n s)) ∙ ap (λ (p : Result ℕ ℕ). insert_at p r (recs n s)) (sym at)

  pub held-count : n ≡ length (insert r (recs n s))
  held-count = sym (ap length held_same ∙ recs-length n s)

  pub held_bytes : s ≡ flat (insert r (recs n s)) ++ drop (n * 384) s
  held_bytes = sym (ap (λ (l : List (List ℕ)). flat l ++ drop (n * 384) s) held_same ∙ ap (λ (l : List ℕ). l ++ drop (n * 384) s) (flat-all n s) ∙ take-append-drop (n * 384) s)

-- a new one: shifted and stored
module _ (s r : List ℕ) (n k : ℕ) (at : Err k ≡ place_of r (recs n s)) where
  pub new-within : k ≤ n
  new-within = rw (← recs-length n s) (place-within r (recs n s) k (sym at))

  new-insert : insert r (recs n s) ≡ take k (recs n s) ++ r ∷ drop k (recs n s)
  new-insert = sym (place-insert r (recs n s)) ∙ ap (λ (p : Result ℕ ℕ). insert_at p r (recs n s)) (sym at)

  pub new-count : n + 1 ≡ length (insert r (recs n s))
  new-count = sym (ap length new-insert ∙ simp (length-append, length-take, length-drop, recs-length) (omega (arith, new-within)))

  -- and there is room behind it
  pub new-room : length (insert r (recs n s)) * 384 ≤ length s → (k ≤ n) × ((n + 1) * 384 ≤ length s)
  new-room h = (new-within, rw new-count h)

  pub new-bytes : (s₁ s₂ : List ℕ) → (n + 1) * 384 ≤ length s → length r ≡ 384 → length s₁ ≡ length s
      → s₁ ≡ take (k * 384 + 384) s ++ (slice (k * 384) (n * 384) s ++ drop (n * 384 + 384) s)
      → s₂ ≡ sets s₁ (k * 384) r
      → s₂ ≡ flat (insert r (recs n s)) ++ drop ((n + 1) * 384) s
  new-bytes s₁ s₂ room lr ls e₁ e₂ =
      e₂
      ∙ sets-eq r s₁ (k * 384) (omega (arith, new-within))
      ∙ append_assoc (take (k * 384) s₁) r (drop (k * 384 + length r) s₁)
      ∙ ap₂ (λ (a b : List ℕ). a ++ (r ++ b)) front back
      ∙ ap (λ (m : ℕ). take (k * 384) s ++ (r ++ (slice (k * 384) (n * 384) s ++ drop m s))) (let q : n * 384 + 384 ≡ (n + 1) * 384 = omega arith in q)
      ∙ sym (
      ap (λ (l : List (List ℕ)). flat l ++ drop ((n + 1) * 384) s) new-insert
      ∙ ap (λ (l : List ℕ). l ++ drop ((n + 1) * 384) s) (flat_append (take k (recs n s)) (r ∷ drop k (recs n s)))
      ∙ ap₂ (λ (a b : List ℕ). (a ++ (r ++ b)) ++ drop ((n + 1) * 384) s) (flat-take k n s new-within) (flat-drop k n s new-within)
      ∙ simp append_assoc)
    where
      whole : length (take (k * 384 + 384) s) ≡ k * 384 + 384
      whole = length-take-le (k * 384 + 384) s (omega (arith, new-within))

      front : take (k * 384) s₁ ≡ take (k * 384) s
      front =
          ap (take (k * 384)) e₁
          ∙ take-append-le (k * 384) (take (k * 384 + 384) s) (slice (k * 384) (n * 384) s ++ drop (n * 384 + 384) s) (rw whole (omega arith))
          ∙ take-take (k * 384) (k * 384 + 384) s (omega arith)

      back : drop (k * 384 + length r) s₁ ≡ slice (k * 384) (n * 384) s ++ drop (n * 384 + 384) s
      back =
          ap₂ drop (ap (λ (m : ℕ). k * 384 + m) lr) e₁
          ∙ drop_at (take (k * 384 + 384) s) (slice (k * 384) (n * 384) s ++ drop (n * 384 + 384) s) (k * 384 + 384) whole

-- ---- a batch t of which i records are counted: record i is held, or new

pub insert-next : (i : ℕ) (s : List ℕ) (b : List (List ℕ)) → insert_all (recs (i + 1) s) b ≡ insert (rec i s) (insert_all (recs i s) b)
insert-next i s b = ap (λ (k : ℕ). insert_all (recs k s) b) (add-one i) ∙ ap (λ (l : List (List ℕ)). insert_all l b) (recs-snoc i s) ∙ insert_all-append (recs i s) (rec i s ∷ []) b

module _ (s t : List ℕ) (n i : ℕ) (sorted : Sorted (recs n s)) where
  pub old-count : In (rec i t) (insert_all (recs i t) (recs n s)) → 0 + length (insert_all (recs i t) (recs n s)) ≡ length (insert_all (recs (i + 1) t) (recs n s))
  old-count m = let q = ap length (insert-next i t (recs n s) ∙ insert-held (rec i t) (insert_all (recs i t) (recs n s)) (insert_all-sorted (recs i t) (recs n s) sorted) m) in omega arith

  pub on-board : true ≡ has (rec i t) (recs n s) → In (rec i t) (insert_all (recs i t) (recs n s))
  on-board e = (in-insert_all (rec i t) (recs i t) (recs n s)).1 (inr ((has_in (rec i t) (recs n s)).0 (sym e)))

  pub in-batch : true ≡ has (rec i t) (recs i t) → In (rec i t) (insert_all (recs i t) (recs n s))
  in-batch e = (in-insert_all (rec i t) (recs i t) (recs n s)).1 (inl ((has_in (rec i t) (recs i t)).0 (sym e)))

  pub batch-count : false ≡ has (rec i t) (recs n s) → false ≡ has (rec i t) (recs i t) → 1 + length (insert_all (recs i t) (recs n s)) ≡ length (insert_all (recs (i + 1) t) (recs n s))
  batch-count e f =
      let q = ap length (insert-next i t (recs n s)) ∙ insert-new (rec i t) (insert_all (recs i t) (recs n s)) none in omega arith
    where
      none : In (rec i t) (insert_all (recs i t) (recs n s)) → ⊥
      none m = ⊎_elim (λ k. absurd (true≢false (sym (f ∙ (has_in (rec i t) (recs i t)).1 k)))) (λ k. absurd (true≢false (sym (e ∙ (has_in (rec i t) (recs n s)).1 k)))) ((in-insert_all (rec i t) (recs i t) (recs n s)).0 m)

  -- record i is one more where it is neither
  pub count-old : (h : Bool) → h ≡ true → true ≡ has (rec i t) (recs n s) → pick (not h) 1 0 + length (insert_all (recs i t) (recs n s)) ≡ length (insert_all (recs (i + 1) t) (recs n s))
  count-old h e a = rw e (old-count (on-board a))

  pub count-next : (h : Bool) → h ≡ has (rec i t) (recs i t) → false ≡ has (rec i t) (recs n s) → pick (not h) 1 0 + length (insert_all (recs i t) (recs n s)) ≡ length (insert_all (recs (i + 1) t) (recs n s))
  count-next true e a = old-count (in-batch e)
  count-next false e a = batch-count a e

-- ---- a batch t of which i records are added to the first n of s: b, with k records

module _ (s t b : List ℕ) (n i k : ℕ) (room : n * 384 ≤ length s) (room' : i * 384 ≤ length t)
    (is : b ≡ flat (insert_all (recs i t) (recs n s)) ++ drop (k * 384) s) (count : k ≡ length (insert_all (recs i t) (recs n s))) where
  each : (r : List ℕ) → In r (insert_all (recs i t) (recs n s)) → length r ≡ 384
  each r m = ⊎_elim (in-recs r i t room') (in-recs r n s room) ((in-insert_all r (recs i t) (recs n s)).0 m)

  pub held-now : recs k b ≡ insert_all (recs i t) (recs n s)
  held-now = ap₂ recs count is ∙ recs-flat (insert_all (recs i t) (recs n s)) (drop (k * 384) s) each

  -- record i is added
  pub next-insert : insert (rec i t) (recs k b) ≡ insert_all (recs (i + 1) t) (recs n s)
  next-insert = ap (insert (rec i t)) held-now ∙ sym (insert-next i t (recs n s))

  pub next-rest : (k' : ℕ) → k ≤ k' → drop (k' * 384) b ≡ drop (k' * 384) s
  next-rest k' h =
      ap (λ (m : ℕ). drop m b) (let q : k' * 384 ≡ k * 384 + (k' - k) * 384 = omega arith in q)
      ∙ sym (drop-drop ((k' - k) * 384) (k * 384) b)
      ∙ ap (drop ((k' - k) * 384)) (ap (drop (k * 384)) is ∙ drop_at (flat (insert_all (recs i t) (recs n s))) (drop (k * 384) s) (k * 384) (flat-length (insert_all (recs i t) (recs n s)) each ∙ ap (λ (m : ℕ). m * 384) (sym count)))
      ∙ drop-drop ((k' - k) * 384) (k * 384) s
      ∙ ap (λ (m : ℕ). drop m s) (let q : k * 384 + (k' - k) * 384 ≡ k' * 384 = omega arith in q)

-- a longer batch adds no less
pub batch-grows : (i m : ℕ) (t : List ℕ) (b : List (List ℕ)) → i ≤ m → length (insert_all (recs i t) b) ≤ length (insert_all (recs m t) b)
batch-grows i m t b h =
    rw (ap (λ (k : ℕ). insert_all (recs k t) b) (let q : m ≡ i + (m - i) = omega arith in q) ∙ ap (λ (l : List (List ℕ)). insert_all l b) (recs-more i (m - i) t) ∙ insert_all-append (recs i t) (recs (m - i) (drop (i * 384) t)) b)
    (insert_all-grows (recs (m - i) (drop (i * 384) t)) (insert_all (recs i t) b))
