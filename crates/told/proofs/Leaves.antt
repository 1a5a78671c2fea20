-- A leaf as the pass finds it is the leaf of its name on the tree.
--     leaf-tells     its count, its value, and whether one of its name holds an element
--     leaf-sound     a leaf that is read and at fault
--     pair-sound     a valueName or value that is read and at fault
use Prim.Native.Nat.{ℕ, zero, suc, ◌+◌, min}
use Prim.Native.String.{String}
use mathlib.Core.Path.{◌≡◌, refl, sym, ap, ap₂, ◌∙◌}
use mathlib.Core.Bool.{Bool, true, false, ◌&&◌, not, and-true, and-false, not-not}
use mathlib.Core.List.{List, [], ◌∷◌, ◌++◌, map, map-append}
use native.Mathlib.Omega.{arith}
use lib.ListN.{length, length-append, length-map}
use lib.Dec.{eqb, leb}
use borrow.Author.Tests.{eqb-true, eqb-false, eq-eqb, ne_eqb, leb-true, leb-false, le-leb, lt-leb}
use Rattle.octets.specs.Bytes.{pick, every, holds}
use Rattle.markup.specs.Tree.{Forest}
use Rattle.values.specs.Value.{value_at}
use Rattle.values.proofs.Steps.{value-past}
use Rattle.reads.specs.WorkingLeaves.{no_leaf, found, sound_of, only_of, pair_ok}
use Rattle.reads.specs.declared.Leaf.{Leaf}
use Rattle.gather.specs.Read.{Element, named, bare}
use Rattle.gather.specs.WorkingRead.{place_in, marked_if, with_leaf, leaf_in}
use Rattle.leaves.specs.Leaf.{leaf_value}
use Rattle.leaves.proofs.Reals.{Real, AllReal}
use Rattle.leaves.proofs.Places.{named-real}
use Rattle.told.specs.Values.{is_none, first_value, value_of, hold_none, once, sound, pair_sound}
use Rattle.told.proofs.Folds.{every-last, fold-tells}

-- as many of them as are counted, whether one holds an element, and the first one's value
pub record LeafTells (s : List ℕ) (l : Leaf) (es : List Element) : Type 0 where
  pub count : l.count ≡ min 2 (length es)
  pub holds : l.holds ≡ not (hold_none es)
  pub value : value_at s l.at ≡ first_value (map (λ (e : Element). leaf_value s e.holds) es)

-- ---- one more

-- more than two count as two, and the first one's value is kept
pub found-count : (l : Leaf) (i n : ℕ) → l.count ≡ min 2 n → (found l i).count ≡ min 2 (n + 1)
found-count l i n h = go (eqb l.count 0) refl
  where
    go : (b : Bool) → eqb l.count 0 ≡ b → pick b 1 2 ≡ min 2 (n + 1)
    go true q = let z = eqb-true l.count 0 q in omega arith
    go false q = let z : l.count ≡ 0 → ⊥ = eqb-false l.count 0 q in omega arith

pub found-value : (s : List ℕ) (l : Leaf) (i : ℕ) (vs : List (List ℕ)) (v : List ℕ) → l.count ≡ min 2 (length vs)
    → value_at s l.at ≡ first_value vs → value_at s i ≡ v → value_at s (found l i).at ≡ first_value (vs ++ (v ∷ []))
found-value s l i [] v c h k = rw (eq-eqb l.count 0 (omega arith)) k
found-value s l i (w ∷ vs) v c h k = rw (ne_eqb l.count 0 (omega arith)) h

-- ---- the leaf of a name

-- it is absent
none-tell : (s : List ℕ) → LeafTells s (no_leaf (length s)) []
unfolding every
none-tell s = record { count = refl; holds = refl; value = value-past s (length s) (omega arith) }

-- one element more
added-tells : (s : List ℕ) (l : Leaf) (ds : List Element) (e : Element) → Real s e.tag e.holds → AllReal s e.holds → LeafTells s l ds
    → LeafTells s (with_leaf s l e) (ds ++ (e ∷ []))
added-tells s l ds e r a h = go (bare e.holds) refl
  where
    said : Element → List ℕ
    said d = leaf_value s d.holds

    one_more : length (ds ++ (e ∷ [])) ≡ length ds + 1
    one_more = length-append ds (e ∷ [])

    none_more : hold_none (ds ++ (e ∷ [])) ≡ (hold_none ds && bare e.holds)
    none_more = every-last (λ (d : Element). bare d.holds) ds e

    are : (m : Leaf) → m.count ≡ l.count → m.at ≡ l.at → m.holds ≡ not (hold_none ds && bare e.holds)
        → LeafTells s (found m (place_in s e.tag)) (ds ++ (e ∷ []))
    are m c i o = record {
      count = found-count m (place_in s e.tag) (length ds) (c ∙ h.count) ∙ ap (min 2) (sym one_more);
      holds = o ∙ ap not (sym none_more);
      value =
          found-value s m (place_in s e.tag) (map said ds) (said e)
          (c ∙ h.count ∙ ap (min 2) (sym (length-map ds said))) (ap (value_at s) i ∙ h.value) r.value
          ∙ ap first_value (sym (map-append said ds (e ∷ [])));
    }

    go : (b : Bool) → bare e.holds ≡ b → LeafTells s (found (marked_if (not b) l) (place_in s e.tag)) (ds ++ (e ∷ []))
    go true q = are l refl refl (h.holds ∙ rw (q, and-true (hold_none ds)))
    go false q = are (marked_if true l) refl refl (rw (q, and-false (hold_none ds)))

pub leaf-tells : (s p : List ℕ) (w : String) (t : Forest) → AllReal s t → LeafTells s (leaf_in s p w t) (named s p w t)
leaf-tells s p w t r = fold-tells s (LeafTells s) (with_leaf s) (added-tells s) (named s p w t) (named-real s p w t r) (no_leaf (length s)) (none-tell s)

-- ---- what is asked of it

-- a count that stops at two tells few, one and none
few-two : (n : ℕ) → leb (min 2 n) 1 ≡ leb n 1
few-two n = go (leb n 1) refl
  where
    go : (b : Bool) → leb n 1 ≡ b → leb (min 2 n) 1 ≡ b
    go true q = le-leb (min 2 n) 1 (omega (arith, leb-true n 1 q))
    go false q = lt-leb (min 2 n) 1 (omega (arith, leb-false n 1 q))

one-two : (n : ℕ) → eqb (min 2 n) 1 ≡ eqb n 1
one-two n = go (eqb n 1) refl
  where
    go : (b : Bool) → eqb n 1 ≡ b → eqb (min 2 n) 1 ≡ b
    go true q = eq-eqb (min 2 n) 1 (omega (arith, eqb-true n 1 q))
    go false q = let z : n ≡ 1 → ⊥ = eqb-false n 1 q in ne_eqb (min 2 n) 1 (omega arith)

none-two : {A : Type 0} (xs : List A) → eqb (min 2 (length xs)) 0 ≡ is_none xs
none-two [] = refl
none-two (x ∷ xs) = ne_eqb (min 2 (length (x ∷ xs))) 0 (omega arith)

module _ (s p : List ℕ) (w : String) (t : Forest) (r : AllReal s t) where
  -- a test of the count, and no element held
  counted : (f : ℕ → Bool) → ((n : ℕ) → f (min 2 n) ≡ f n)
      → every holds (f (leaf_in s p w t).count ∷ not (leaf_in s p w t).holds ∷ []) ≡ (f (length (named s p w t)) && hold_none (named s p w t))
  unfolding every
  counted f k =
      let h = leaf-tells s p w t r in
      let n = length (named s p w t) in
      let b = hold_none (named s p w t) in
      ap₂ (λ (n : ℕ) (b : Bool). f n && (not b && true)) h.count h.holds
      ∙ ap (λ (a : Bool). a && (not (not b) && true)) (k n)
      ∙ ap (λ (a : Bool). f n && a) (and-true (not (not b)) ∙ not-not b)

  pub leaf-sound : sound_of (leaf_in s p w t) ≡ sound s p w t
  unfolding sound_of
  leaf-sound = counted (λ (n : ℕ). leb n 1) few-two

  pub leaf-once : only_of (leaf_in s p w t) ≡ once s p w t
  unfolding only_of
  leaf-once = counted (λ (n : ℕ). eqb n 1) one-two

  pub leaf-value : value_at s (leaf_in s p w t).at ≡ value_of s p w t
  leaf-value = (leaf-tells s p w t r).value

  pub leaf-none : eqb (leaf_in s p w t).count 0 ≡ is_none (named s p w t)
  leaf-none = ap (λ (n : ℕ). eqb n 0) (leaf-tells s p w t r).count ∙ none-two (named s p w t)

-- one is neither none nor more
one-is : (n : ℕ) → eqb n 1 ≡ (not (eqb n 0) && leb n 1)
one-is zero = refl
one-is (suc zero) = refl
one-is (suc (suc n)) = ne_eqb (suc (suc n)) 1 (omega arith) ∙ sym (rw (lt-leb (suc (suc n)) 1 (omega arith), and-false))

-- neither missing, nor repeated, nor holding an element: each exactly once, holding none
pair-only : (a b : Leaf) → pair_ok a b ≡ (only_of a && only_of b)
unfolding pair_ok only_of sound_of every
pair-only a b = rw (one-is m, one-is n) (go (not (eqb m 0)) (not (eqb n 0)) (leb m 1) (not a.holds) (leb n 1) (not b.holds))
  where
    m : ℕ
    m = a.count

    n : ℕ
    n = b.count

    go : (x y f g k l : Bool)
        → (x && (y && ((f && (g && true)) && ((k && (l && true)) && true)))) ≡ (((x && f) && (g && true)) && ((y && k) && (l && true)))
    go false y f g k l = refl
    go true y false g k l = and-false y
    go true y true false k l = and-false y
    go true false true true k l = refl
    go true true true true k l = and-true (k && (l && true))

pub pair-sound : (s p : List ℕ) (e : Element) → AllReal s e.holds
    → pair_ok (leaf_in s p "valueName" e.holds) (leaf_in s p "value" e.holds) ≡ pair_sound s p e
pair-sound s p e r =
    pair-only (leaf_in s p "valueName" e.holds) (leaf_in s p "value" e.holds)
    ∙ ap₂ (λ (a b : Bool). a && b) (leaf-once s p "valueName" e.holds r) (leaf-once s p "value" e.holds r)
