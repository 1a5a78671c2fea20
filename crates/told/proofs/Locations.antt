-- The locations that the pass gathers in an info are the values of its geocodes named SAME.
--     locations-tell      the first 31 of six digits in message order, repeats kept and zeros behind them, and whether every one is six digits
--     locations-fault     a geocode at fault
use Prim.Native.Nat.{ℕ, ◌+◌, ◌≤◌, ◌<◌, min}
use mathlib.Core.Path.{◌≡◌, refl, sym, ap, ◌∙◌}
use mathlib.Core.Bool.{Bool, true, false, ◌&&◌, not, and-true, and-false}
use mathlib.Core.List.{List, [], ◌∷◌, ◌++◌, map, map-append, foldl, flat_map, foldl-append, append-nil}
use native.Mathlib.Numerals.{add-one}
use native.Mathlib.Omega.{arith}
use lib.ListN.{length, take, set, length-append, length-map}
use lib.Seq.{take-suc-set, take_all, take-append-le}
use lib.Dec.{eqb, leb}
use borrow.Author.Tests.{leb-true, leb-false}
use Rattle.octets.specs.Bytes.{pick, every}
use Rattle.octets.specs.Digits.{value, all_digits, num_of}
use Rattle.std.specs.Prelude.{Option, Some, None}
use Rattle.octets.proofs.Tests.{either_way}
use Rattle.parts.specs.Parts.{padded}
use Rattle.parts.proofs.Padded.{padded-is}
use Rattle.markup.specs.Tree.{Forest}
use Rattle.values.specs.Value.{value_at}
use Rattle.values.specs.WorkingSteps.{six_digits}
use Rattle.reads.specs.WorkingLeaves.{no_info}
use Rattle.reads.specs.WorkingSteps.{with_location, location_of, location_step}
use Rattle.reads.specs.declared.Locations.{Locations}
use Rattle.gather.specs.Read.{Element, named}
use Rattle.gather.specs.WorkingRead.{leaf_in, with_geocode, info_of}
use Rattle.leaves.proofs.Reals.{AllReal}
use Rattle.leaves.proofs.Places.{Reals, named-real}
use Rattle.leaves.proofs.Fits.{LocationsFit, location-fits, no-locations-fit, info-locations-fit}
use Rattle.told.specs.Values.{passing, is, Pair, is_six, geocodes_in, geocodes, values_named, pair_sound}
use Rattle.told.proofs.Folds.{every-last, passing-last, values-last, pick-of, reals-append, step-fault, fold-fault, fold-sound}
use Rattle.told.proofs.Leaves.{leaf-value, pair-sound}
use Rattle.told.proofs.Infos.{pair, names}

-- of these values, the first 31 of six digits, and bad where not every one is
pub record LocationsTell (l : Locations) (vs : List (List ℕ)) : Type 0 where
  pub count : l.count ≡ min 31 (length (passing is_six vs))
  pub list : l.list ≡ padded (take 31 (map value (passing is_six vs)))
  pub bad : l.bad ≡ not (every is_six vs)

-- the first 31 of these codes, and bad where not all is well
record FirstPlaced (l : Locations) (codes : List ℕ) (ok : Bool) : Type 0 where
  pub count : l.count ≡ min 31 (length codes)
  pub first : take l.count l.list ≡ take 31 codes
  pub bad : l.bad ≡ not ok

-- ---- one value more

-- those of six digits, as numbers
abbrev codes : List (List ℕ) → List ℕ
codes vs = map value (passing is_six vs)

six-is : (v : List ℕ) → six_digits v ≡ pick (is_six v) (Some (value v)) None
unfolding six_digits num_of
six-is v = go (eqb (length v) 6) (all_digits v)
  where
    go : (a b : Bool) → pick a (pick b (Some (value v)) None) None ≡ pick (a && b) (Some (value v)) None
    go true b = refl
    go false b = refl

codes-last : (vs : List (List ℕ)) (v : List ℕ) → codes (vs ++ (v ∷ [])) ≡ codes vs ++ pick (is_six v) (value v ∷ []) []
codes-last vs v =
    ap (map value) (passing-last is_six vs v)
    ∙ map-append value (passing is_six vs) (pick (is_six v) (v ∷ []) [])
    ∙ ap (λ (cs : List ℕ). codes vs ++ cs) (pick-of (map value) (is_six v) (v ∷ []) [])

-- one of six digits
placed-more : (x : Locations) (v : ℕ) (cs : List ℕ) (ok : Bool) → LocationsFit x → FirstPlaced x cs ok → FirstPlaced (with_location x v) (cs ++ (v ∷ [])) ok
unfolding with_location
placed-more x v cs ok f h = either_way (λ (y : Locations). FirstPlaced y (cs ++ (v ∷ [])) ok) (leb 31 x.count) _ _ full room
  where
    one_more : length (cs ++ (v ∷ [])) ≡ length cs + 1
    one_more = length-append cs (v ∷ [])

    full : leb 31 x.count ≡ true → FirstPlaced x (cs ++ (v ∷ [])) ok
    full q =
        let c = h.count in
        let l : 31 ≤ length cs = omega (arith, c, leb-true 31 x.count q) in
        record { count = omega (arith, c, one_more); first = h.first ∙ sym (take-append-le 31 cs (v ∷ []) l); bad = h.bad }

    room : leb 31 x.count ≡ false
        → FirstPlaced (record { count = x.count + 1; list = set x.list x.count v; bad = x.bad; fault = x.fault }) (cs ++ (v ∷ [])) ok
    room q =
        let n = x.count in
        let c = h.count in
        let k : n < 31 = leb-false 31 n q in
        let i : n < length x.list = omega (arith, f.long) in
        let l : length cs ≤ 31 = omega (arith, c) in
        let m : length (cs ++ (v ∷ [])) ≤ 31 = omega (arith, c, one_more) in
        record {
          count = omega (arith, c, one_more);
          first =
              ap (λ (j : ℕ). take j (set x.list n v)) (add-one n)
              ∙ take-suc-set x.list n v i
              ∙ ap (λ (r : List ℕ). r ++ (v ∷ [])) (h.first ∙ take_all 31 cs l)
              ∙ sym (take_all 31 (cs ++ (v ∷ [])) m);
          bad = h.bad;
        }

one_placed : (x : Locations) (vs : List (List ℕ)) (v : List ℕ) → LocationsFit x → FirstPlaced x (codes vs) (every is_six vs)
    → FirstPlaced (location_of x (six_digits v)) (codes (vs ++ (v ∷ []))) (every is_six (vs ++ (v ∷ [])))
one_placed x vs v f h = rw (six-is v, codes-last vs v, every-last is_six vs v) (go (is_six v))
  where
    go : (b : Bool) → FirstPlaced (location_of x (pick b (Some (value v)) None)) (codes vs ++ pick b (value v ∷ []) []) (every is_six vs && b)
    go true = rw (and-true (every is_six vs)) (placed-more x (value v) (codes vs) (every is_six vs) f h)
    go false = rw (append-nil (codes vs), and-false (every is_six vs)) (record { count = h.count; first = h.first; bad = refl })

-- ---- all of them

-- a fold within a fold goes through one list
fold-flat : {A B C : Type 0} (f : A → C → A) (g : B → List C) (x : A) (es : List B)
    → foldl (λ (x : A) (e : B). foldl f x (g e)) x es ≡ foldl f x (flat_map g es)
unfolding flat_map
fold-flat f g x [] = refl
fold-flat f g x (e ∷ es) = fold-flat f g (foldl f x (g e)) es ∙ sym (foldl-append f x (g e) (flat_map g es))

module _ (s p : List ℕ) where
  geocodes-real : (t : Forest) → AllReal s t → Reals s (geocodes_in s p t)
  unfolding flat_map
  geocodes-real t r = go (named s p "area" t) (named-real s p "area" t r)
    where
      go : (es : List Element) → Reals s es → Reals s (flat_map (λ (e : Element). named s p "geocode" e.holds) es)
      go [] r = tt
      go (e ∷ es) r = reals-append s (named s p "geocode" e.holds) _ (named-real s p "geocode" e.holds r.1) (go es r.2)

  -- the values of those named SAME
  abbrev said : List Element → List (List ℕ)
  said ds = values_named "SAME" (map (pair s p) ds)

  location-fault : (x : Locations) (e : Element) → AllReal s e.holds → (with_geocode s p x e).fault ≡ pick (pair_sound s p e) x.fault true
  unfolding location_step with_location
  location-fault x e a =
      step-fault (λ (y : Locations). y.fault) _ (pair_sound s p e) x _ _ (pair-sound s p e a)
      (either_way Kept (names s p e "SAME") _ _ (λ _. kept (six_digits (value_at s (leaf_in s p "value" e.holds).at))) (λ _. refl))
      refl
    where
      Kept : Locations → Type 0
      Kept y = y.fault ≡ x.fault

      kept : (n : Option ℕ) → Kept (location_of x n)
      kept (Some v) = either_way Kept (leb 31 x.count) _ _ (λ _. refl) (λ _. refl)
      kept None = refl

  location-placed : (x : Locations) (ds : List Element) (e : Element) → AllReal s e.holds → pair_sound s p e ≡ true → LocationsFit x
      → FirstPlaced x (codes (said ds)) (every is_six (said ds))
      → FirstPlaced (with_geocode s p x e) (codes (said (ds ++ (e ∷ [])))) (every is_six (said (ds ++ (e ∷ []))))
  unfolding location_step
  location-placed x ds e a o f h =
      let n = leaf-value s p "valueName" e.holds a in
      let u = leaf-value s p "value" e.holds a in
      rw (pair-sound s p e a, o, n, u, map-append (pair s p) ds (e ∷ []), values-last (λ (x : Pair). is "SAME" x.name) (map (pair s p) ds) (pair s p e))
      (go (is "SAME" (pair s p e).name))
    where
      v : List ℕ
      v = (pair s p e).value

      go : (b : Bool) → let vs = said ds ++ pick b (v ∷ []) [] in FirstPlaced (pick b (location_of x (six_digits v)) x) (codes vs) (every is_six vs)
      go true = one_placed x (said ds) v f h
      go false = rw (append-nil (said ds)) h

  -- the geocodes of all areas in one fold
  one-fold : (t : Forest) → (info_of s p t).locations ≡ foldl (with_geocode s p) (no_info (length s)).locations (geocodes_in s p t)
  unfolding info_of
  one-fold t = fold-flat (with_geocode s p) (λ (e : Element). named s p "geocode" e.holds) (no_info (length s)).locations (named s p "area" t)

  pub locations-fault : (t : Forest) → AllReal s t → (info_of s p t).locations.fault ≡ not (every (pair_sound s p) (geocodes_in s p t))
  locations-fault t r =
      ap (λ (x : Locations). x.fault) (one-fold t)
      ∙ fold-fault s (λ (x : Locations). x.fault) (with_geocode s p) (pair_sound s p) location-fault
      (geocodes_in s p t) (geocodes-real t r) (no_info (length s)).locations refl

  all_placed : (t : Forest) → AllReal s t → every (pair_sound s p) (geocodes_in s p t) ≡ true
      → FirstPlaced (info_of s p t).locations (codes (said (geocodes_in s p t))) (every is_six (said (geocodes_in s p t)))
  unfolding every
  all_placed t r o =
      let none = (no_info (length s)).locations in
      rw (one-fold t) (fold-sound s Both (with_geocode s p) (pair_sound s p)
      (λ x ds e a o h. (location-fits s p x e h.0, location-placed x ds e a o h.0 h.1))
      (geocodes_in s p t) (geocodes-real t r) o none (no-locations-fit (length s), record { count = refl; first = refl; bad = refl })
      ).1
    where
      Both : Locations → List Element → Type 0
      Both x ds = LocationsFit x × FirstPlaced x (codes (said ds)) (every is_six (said ds))

  pub locations-tell : (t : Forest) → AllReal s t → every (pair_sound s p) (geocodes_in s p t) ≡ true
      → LocationsTell (info_of s p t).locations (values_named "SAME" (geocodes s p t))
  locations-tell t r o =
      let h = all_placed t r o in
      let f = info-locations-fit s p t in
      let l = (info_of s p t).locations in
      record {
        count = h.count ∙ ap (min 31) (length-map (passing is_six (said (geocodes_in s p t))) value);
        list = sym (padded-is l.list l.count f.long f.few f.zeros) ∙ ap padded h.first;
        bad = h.bad;
      }
