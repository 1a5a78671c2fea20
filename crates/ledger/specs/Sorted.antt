-- Strictly ascending lists of runs of bytes, in byte order.
use Rattle.std.specs.Prelude.{ℕ, ◌≡◌, ◌⊎◌, Bool, true, false, List, [], ◌∷◌}
use Rattle.std.specs.declared.cmp.Ordering.TheVariants.{Less}
use Rattle.octets.specs.Order.{cmp, choose}

-- a is one of l
abbrev pub In : {A : Type 0} → A → List A → Type 0
In a [] = ⊥
In a (x ∷ xs) = (a ≡ x) ⊎ In a xs

-- the same as a test
abbrev pub has : List ℕ → List (List ℕ) → Bool
has a [] = false
has a (x ∷ xs) = choose (cmp a x) (has a xs) true (has a xs)

-- a is before each of l
abbrev pub Before : List ℕ → List (List ℕ) → Type 0
Before a l = (y : List ℕ) → In y l → cmp a y ≡ Less

-- strictly ascending
abbrev pub Sorted : List (List ℕ) → Type 0
Sorted [] = Unit {0}
Sorted (x ∷ xs) = Before x xs × Sorted xs

-- the same as a test, neighbour by neighbour
abbrev pub ascending : List (List ℕ) → Bool
ascending [] = true
ascending (x ∷ []) = true
ascending (x ∷ (y ∷ l)) = choose (cmp x y) (ascending (y ∷ l)) false false

-- l with a in its place, once
abbrev pub insert : List ℕ → List (List ℕ) → List (List ℕ)
insert a [] = a ∷ []
insert a (x ∷ xs) = choose (cmp a x) (a ∷ x ∷ xs) (x ∷ xs) (x ∷ insert a xs)

abbrev pub insert_all : List (List ℕ) → List (List ℕ) → List (List ℕ)
insert_all [] l = l
insert_all (a ∷ r) l = insert_all r (insert a l)
