-- The words of a table, and the place of a name among words.
use Rattle.std.specs.Prelude.{ℕ, suc, Option, Some, None, option_map, List, [], ◌∷◌, Bool, length, take, drop, get_or, leb}
use Rattle.octets.specs.Bytes.{pick, same}

-- the words of these lengths that stand one behind another; a length that goes beyond the end ends the table
unfoldable pub words_of : List ℕ → List ℕ → List (List ℕ)
words_of [] t = []
words_of (n ∷ ns) t = pick (leb n (length t)) (take n t ∷ words_of ns (drop n t)) []

-- the place of the first word that is the name, counted from 0; None where none is
unfoldable pub which_of : List (List ℕ) → List ℕ → Option ℕ
which_of [] w = None
which_of (x ∷ xs) w = pick (same w x) (Some 0) (option_map suc (which_of xs w))

-- the first word that is taken, by its place from k on and its bytes, and that place before it
unfoldable pub first_of : (ℕ → List ℕ → Bool) → ℕ → List (List ℕ) → Option (ℕ × List ℕ)
first_of p k [] = None
first_of p k (x ∷ xs) = pick (p k x) (Some (k, x)) (first_of p (suc k) xs)

module _ {A : Type 0} (none : A) where
  -- the answer of the first word that is w, or else the one behind the words'; a definition by a chain of tests is one
  abbrev pub choice : List (List ℕ) → List A → List ℕ → A
  choice [] xs w = get_or xs 0 none
  choice (v ∷ vs) [] w = none
  choice (v ∷ vs) (x ∷ xs) w = pick (same w v) x (choice vs xs w)

  -- the answer at a place among n words; where there is none, the one behind the last word's
  abbrev pub answer : ℕ → List A → Option ℕ → A
  answer n xs None = get_or xs n none
  answer n xs (Some k) = get_or xs k none
