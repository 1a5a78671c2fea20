-- A copy of at most g characters of a value v, each as a byte, as its caller has it: at the front of a buffer d.
--     room      room for g characters is enough
--     fronted   the copy stands there
--     whole     fewer than g characters are the whole value
--     plain_by, low-plain                a test that only characters below 128 pass, and a value of such characters, which is its own copy
--     printable-low                      a value of characters of 32 to 126 is its own copy
--     low-pick, low_same                 a test that only characters of 1 to 127 pass says the same of a value and of its copy
use Prim.Native.Nat.{ℕ, ◌+◌, ◌≤◌, ◌<◌}
use mathlib.Core.Path.{◌≡◌, refl, sym, ap, ap₂, ◌∙◌}
use mathlib.Core.Bool.{Bool, true, false}
use mathlib.Core.List.{List, [], ◌∷◌, ◌++◌, map}
use native.Mathlib.Omega.{arith}
use native.Mathlib.Decide.{dec_lt}
use lib.ListN.{length, take, drop, length-take, length-map}
use lib.Seq.{sets, sets-eq, take_all, take_at}
use lib.Dec.{ltb}
use borrow.Author.Tests.{lt-ltb, le-ltb, ltb-true}
use Rattle.octets.specs.Bytes.{pick, every, between}
use Rattle.octets.proofs.Everys.{every-weaker}
use Rattle.octets.proofs.Tests.{every_first, every_rest, between-low, between-high}
use Rattle.values.specs.WorkingSteps.{low, is_printable}

module _ (g : ℕ) (v : List ℕ) where
  pub room : (to n : ℕ) → to + g ≤ n → to + length (take g v) ≤ n
  room to n h = let l : length (take g v) ≤ g = simp length-take (omega arith) in omega arith

  pub whole : length (take g v) < g → take g v ≡ v
  whole h = take_all g v (omega (arith, simp length-take at h))

-- a copy into a buffer of g elements, of which it takes n
pub fronted : (g n : ℕ) (v d x : List ℕ) → length d ≡ g → n ≡ length (take g v) → x ≡ sets d 0 (map low (take g v)) → take n x ≡ map low (take g v)
fronted g n v d x l h e =
    let w = map low (take g v) in
    let m : length w ≡ n = length-map (take g v) low ∙ sym h in
    let q : sets d 0 w ≡ w ++ drop (0 + length w) d = sets-eq w d 0 (omega (arith, simp length-take at h)) in
    ap (take n) (e ∙ q) ∙ take_at w (drop (0 + length w) d) n m

-- ---- as bytes

-- a character that one byte keeps
abbrev pub is_kept : ℕ → Bool
is_kept c = between 1 127 c

pub low-is : (c : ℕ) → c < 128 → low c ≡ c
unfolding low
low-is c h = rw (lt-ltb c 128 h)

low-none : (c : ℕ) → 128 ≤ c → low c ≡ 0
unfolding low
low-none c h = rw (le-ltb c 128 h)

low-back : (c : ℕ) → is_kept (low c) ≡ true → low c ≡ c
low-back c h = go (dec_lt c 128)
  where
    go : Dec (c < 128) → low c ≡ c
    go (yes l) = low-is c l
    go (no l) = let e = low-none c (omega arith) in let z = between-low 1 127 (low c) h in absurd (omega arith)

pub low-plain : (v : List ℕ) → every (λ c. ltb c 128) v ≡ true → map low v ≡ v
low-plain [] h = refl
low-plain (c ∷ v) h =
    ap₂ (λ (x : ℕ) (y : List ℕ). x ∷ y) (low-is c (ltb-true c 128 (every_first (λ c. ltb c 128) c v h))) (low-plain v (every_rest (λ c. ltb c 128) c v h))

pub plain_by : (f : ℕ → Bool) → ((c : ℕ) → f c ≡ true → c < 128) → (v : List ℕ) → every f v ≡ true → every (λ c. ltb c 128) v ≡ true
plain_by f low_by = every-weaker f (λ c. ltb c 128) (λ c t. lt-ltb c 128 (low_by c t))

pub keeps : (v : List ℕ) → every is_kept v ≡ true → map low v ≡ v
keeps v h = low-plain v (plain_by is_kept (λ c t. let l = between-high 1 127 c t in omega arith) v h)

module _ (v : List ℕ) (h : every is_printable v ≡ true) where
  printable-plain : every (λ c. ltb c 128) v ≡ true
  printable-plain = plain_by is_printable (λ c t. let l = between-high 32 126 c t in omega arith) v h

  pub printable-low : map low v ≡ v
  printable-low = low-plain v printable-plain

keeps-back : (v : List ℕ) → every is_kept (map low v) ≡ true → map low v ≡ v
keeps-back [] h = refl
keeps-back (c ∷ v) h =
    ap₂ (λ (x : ℕ) (y : List ℕ). x ∷ y) (low-back c (every_first is_kept (low c) (map low v) h)) (keeps-back v (every_rest is_kept (low c) (map low v) h))

module _ (f : List ℕ → Bool) (only : (w : List ℕ) → f w ≡ true → every is_kept w ≡ true) (v : List ℕ) where
  -- where either passes, they are the same
  same_or : {C : Type 0} → (map low v ≡ v → C) → (f (map low v) ≡ false → f v ≡ false → C) → C
  same_or {C} yes-same none = go (f v) refl (f (map low v)) refl
    where
      go : (a : Bool) → f v ≡ a → (b : Bool) → f (map low v) ≡ b → C
      go true p b q = yes-same (keeps v (only v p))
      go false p true q = yes-same (keeps-back v (only (map low v) q))
      go false p false q = none q p

  pub low_same : f (map low v) ≡ f v
  low_same = same_or (λ e. ap f e) (λ p q. p ∙ sym q)

  pub low-pick : {A : Type 0} (g : List ℕ → A) (bad : A) → pick (f (map low v)) (g (map low v)) bad ≡ pick (f v) (g v) bad
  low-pick g bad = same_or (λ e. ap (λ (w : List ℕ). pick (f w) (g w) bad) e) (λ p q. rw (p, q))
