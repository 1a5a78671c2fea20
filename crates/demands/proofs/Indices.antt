-- The place of a value among words, counted from 1, and 0 where it is none of them.
--     index-test     a test of the place, which 0 does not pass, is whether the value is one of the words whose places pass it
--     index-none     it is 0 exactly where the value is none of them
use Prim.Native.Nat.{ℕ, zero, suc}
use Prim.Native.String.{String}
use mathlib.Core.Path.{◌≡◌, refl, sym, ap, ◌∙◌}
use mathlib.Core.Bool.{Bool, true, false, ◌&&◌, ◌||◌, not, and-false}
use mathlib.Core.List.{List, [], ◌∷◌}
use native.Mathlib.Omega.{arith}
use borrow.Author.Tests.{ne_eqb, not-true}
use lib.Dec.{eqb}
use Rattle.octets.specs.Bytes.{pick}
use Rattle.octets.specs.Text.{bytes}
use Rattle.octets.proofs.Tests.{and_left, and_right}
use Rattle.octets.proofs.Sames.{same-is}
use Rattle.fields.specs.WorkingFields.{place_on, index_in}
use Rattle.told.specs.Values.{is, is_one}

-- no word twice
abbrev pub distinct : List String → Bool
distinct [] = true
distinct (w ∷ ws) = not (is_one ws (bytes w)) && distinct ws

-- the words whose places pass
abbrev pub places_pass : (ℕ → Bool) → List String → List String
places_pass f [] = []
places_pass f (w ∷ ws) = pick (f 1) (w ∷ places_pass (λ (n : ℕ). f (place_on n)) ws) (places_pass (λ (n : ℕ). f (place_on n)) ws)

-- a word kept or not, before others
one_kept : (b : Bool) (w : String) (ws : List String) (v : List ℕ) → is_one (pick b (w ∷ ws) ws) v ≡ ((b && is w v) || is_one ws v)
one_kept true w ws v = refl
one_kept false w ws v = refl

none_passes : (f : ℕ → Bool) (ws : List String) (v : List ℕ) → is_one ws v ≡ false → is_one (places_pass f ws) v ≡ false
none_passes f [] v h = refl
none_passes f (w ∷ ws) v h = one_kept (f 1) w (places_pass (λ (n : ℕ). f (place_on n)) ws) v ∙ go (f 1) (is w v) h (none_passes (λ (n : ℕ). f (place_on n)) ws v)
  where
    go : (a b : Bool) {c d : Bool} → (b || c) ≡ false → (c ≡ false → d ≡ false) → ((a && b) || d) ≡ false
    go true true h k = h
    go false true h k = cc
    go true false h k = k h
    go false false h k = k h

-- where the value is the first word it is none of the others
no_other : (f : ℕ → Bool) (w : String) (ws : List String) (v : List ℕ) → distinct (w ∷ ws) ≡ true → is w v ≡ true → is_one (places_pass f ws) v ≡ false
no_other f w ws v d e =
    let others : is_one ws (bytes w) ≡ false = not-true (is_one ws (bytes w)) (and_left (not (is_one ws (bytes w))) (distinct ws) d) in
    none_passes f ws v (ap (is_one ws) (same-is v (bytes w) e) ∙ others)

pub index-test : (f : ℕ → Bool) → f 0 ≡ false → (ws : List String) → distinct ws ≡ true → (v : List ℕ) → f (index_in ws v) ≡ is_one (places_pass f ws) v
unfolding index_in
index-test f z [] d v = z
index-test f z (w ∷ ws) d v =
    let g : ℕ → Bool = λ (n : ℕ). f (place_on n) in
    go (is w v) (index_in ws v) (no_other g w ws v d) (index-test g z ws (and_right (not (is_one ws (bytes w))) (distinct ws) d) v)
    ∙ sym (one_kept (f 1) w (places_pass g ws) v)
  where
    at : (b : Bool) {r : Bool} → r ≡ false → b ≡ ((b && true) || r)
    at true e = refl
    at false e = sym e

    go : (a : Bool) (n : ℕ) {r : Bool} → (a ≡ true → r ≡ false) → f (place_on n) ≡ r → f (pick a 1 (place_on n)) ≡ ((f 1 && a) || r)
    go true n none ih = at (f 1) (none refl)
    go false n none ih = rw (and-false (f 1)) ih

pub index-none : (ws : List String) (v : List ℕ) → eqb (index_in ws v) 0 ≡ not (is_one ws v)
unfolding index_in
index-none [] v = refl
index-none (w ∷ ws) v = go (is w v) (index_in ws v) (is_one ws v) (index-none ws v)
  where
    go : (b : Bool) (n : ℕ) (r : Bool) → eqb n 0 ≡ not r → eqb (pick b 1 (place_on n)) 0 ≡ not (b || r)
    go true n r e = refl
    go false zero r e = e
    go false (suc n) r e = ne_eqb (suc (suc n)) 0 (omega arith) ∙ sym (ne_eqb (suc n) 0 (omega arith)) ∙ e
