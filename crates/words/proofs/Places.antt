-- The first word of a table that a test takes, as it is looked for: the place of a name, and the word at a place.
--     over, cut, hit, miss     k words have been passed, and what is left of the text is t
--     other                    the test is for a name, and the word has another length
--     place, nth               the test is for a name; the test is for a place
use mathlib.Core.Path.{◌≡◌, refl, sym, ap, ◌∙◌}
use mathlib.Core.Bool.{Bool, true, false}
use mathlib.Core.List.{List, [], ◌∷◌}
use Prim.Native.Nat.{ℕ, zero, suc, ◌+◌, ◌≤◌, ◌<◌}
use native.Mathlib.Numerals.{add-one}
use native.Mathlib.Omega.{arith}
use borrow.Author.Tests.{eq-eqb, ne_eqb}
use lib.Dec.{eqb}
use denote.Ref.{Bor}
use lib.ListN.{length, drop, get_or}
use Rattle.std.specs.List.{IsSplitAt}
use Rattle.std.specs.Prelude.{Option, Some, None, option_map, unwrap_or}
use Rattle.octets.specs.Bytes.{pick, same}
use Rattle.octets.proofs.Sames.{same-long}
use Rattle.words.specs.WorkingWords.{words_of, which_of, first_of}
use Rattle.words.proofs.Tables.{left, words-over, words-cut, words-next, length-here}

module _ (p : ℕ → List ℕ → Bool) (k : ℕ) where
  first-none : first_of p k [] ≡ None
  unfolding first_of
  first-none = refl

  module _ (x : List ℕ) (xs : List (List ℕ)) where
    first-taken : p k x ≡ true → first_of p k (x ∷ xs) ≡ Some (k, x)
    unfolding first_of
    first-taken h = rw h

    first-passed : p k x ≡ false → first_of p k (x ∷ xs) ≡ first_of p (k + 1) xs
    unfolding first_of
    first-passed h = rw (h, add-one)

module _ (p : ℕ → List ℕ → Bool) (lens t : List ℕ) (k : ℕ) {a : Option (ℕ × List ℕ)} (l : first_of p k (left lens t k) ≡ a) where
  from : (vs : List (List ℕ)) → left lens t k ≡ vs → first_of p k vs ≡ a
  from vs e = sym (ap (λ (x : List (List ℕ)). first_of p k x) e) ∙ l

  pub over : length lens ≤ k → None ≡ a
  over h = sym (first-none p k) ∙ from [] (words-over lens t k h)

  module _ (n : ℕ) (h : k < length lens) (e : n ≡ get_or lens k 0) where
    pub cut : length t < n → None ≡ a
    cut s = sym (first-none p k) ∙ from [] (words-cut lens t k n h e s)

    module _ (x u : List ℕ) (s : IsSplitAt t n x u) where
      pub hit : p k x ≡ true → Some (k, x) ≡ a
      hit y = sym (first-taken p k x (words_of (drop (k + 1) lens) u) y) ∙ from _ (words-next lens t k n h e x u s)

      pub miss : p k x ≡ false → first_of p (k + 1) (words_of (drop (k + 1) lens) u) ≡ a
      miss y = sym (first-passed p k x (words_of (drop (k + 1) lens) u) y) ∙ from _ (words-next lens t k n h e x u s)

-- the test is for a name: a word of another length is not it
module _ (w lens t : List ℕ) (k : ℕ) {a : Option (ℕ × List ℕ)} (l : first_of (λ _ x. same w x) k (left lens t k) ≡ a) where
  pub other : (n : ℕ) → k < length lens → n ≡ get_or lens k 0 → (x u : List ℕ) → IsSplitAt t n x u → (get_or lens k 0 ≡ length w → ⊥) →
      first_of (λ _ x. same w x) (k + 1) (words_of (drop (k + 1) lens) u) ≡ a
  other n h e x u s d = miss (λ _ x. same w x) lens t k l n h e x u s (same-long w x (λ f. d (sym (f ∙ length-here lens t k n h e x u s))))

place_turn : (b : Bool) (k : ℕ) (x : List ℕ) (o : Option (ℕ × List ℕ)) (q : Option ℕ) → option_map (λ f. f.0) o ≡ option_map (λ j. suc k + j) q → option_map (λ f. f.0) (pick b (Some (k, x)) o) ≡ option_map (λ j. k + j) (pick b (Some 0) (option_map suc q))
place_turn true k x o q h = ap Some (omega arith)
place_turn false k x o None h = h
place_turn false k x o (Some j) h = h ∙ ap Some (omega arith)

place-from : (w : List ℕ) (k : ℕ) (xs : List (List ℕ)) → option_map (λ f. f.0) (first_of (λ _ x. same w x) k xs) ≡ option_map (λ j. k + j) (which_of xs w)
unfolding first_of which_of
place-from w k [] = refl
place-from w k (x ∷ xs) = place_turn (same w x) k x _ _ (place-from w (suc k) xs)

none-on : (q : Option ℕ) → option_map (λ j. 0 + j) q ≡ q
none-on None = refl
none-on (Some j) = ap Some (omega arith)

pub place : (w : List ℕ) (xs : List (List ℕ)) (o : Option (ℕ × Bor (List ℕ))) → option_map (λ f. (f.0, f.1.now)) o ≡ first_of (λ _ x. same w x) 0 xs → option_map (λ f. f.0) o ≡ which_of xs w
place w xs o e = of_both o ∙ ap (λ (q : Option (ℕ × List ℕ)). option_map (λ f. f.0) q) e ∙ place-from w 0 xs ∙ none-on (which_of xs w)
  where
    of_both : (q : Option (ℕ × Bor (List ℕ))) → option_map (λ f. f.0) q ≡ option_map {T = ℕ × List ℕ} (λ f. f.0) (option_map (λ f. (f.0, f.1.now)) q)
    of_both None = refl
    of_both (Some f) = refl

-- the test is for a place
nth_from : (i j k : ℕ) (xs : List (List ℕ)) → i ≡ k + j → unwrap_or (option_map (λ f. f.1) (first_of (λ m _. eqb m i) k xs)) [] ≡ get_or xs j []
unfolding first_of
nth_from i j k [] h = refl
nth_from i zero k (x ∷ xs) h = rw (eq-eqb k i (omega arith))
nth_from i (suc j) k (x ∷ xs) h = rw (ne_eqb k i (omega arith)) (nth_from i j (suc k) xs (omega arith))

pub nth : (i : ℕ) (xs : List (List ℕ)) (o : Option (ℕ × Bor (List ℕ))) → option_map (λ f. (f.0, f.1.now)) o ≡ first_of (λ m _. eqb m i) 0 xs → unwrap_or (option_map (λ f. f.1.now) o) [] ≡ get_or xs i []
nth i xs o e = of_both o ∙ ap (λ (q : Option (ℕ × List ℕ)). unwrap_or (option_map (λ f. f.1) q) []) e ∙ nth_from i i 0 xs (omega arith)
  where
    of_both : (q : Option (ℕ × Bor (List ℕ))) → unwrap_or (option_map (λ f. f.1.now) q) [] ≡ unwrap_or (option_map {T = ℕ × List ℕ} (λ f. f.1) (option_map (λ f. (f.0, f.1.now)) q)) []
    of_both None = refl
    of_both (Some f) = refl
