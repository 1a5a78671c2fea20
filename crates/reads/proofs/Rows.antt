-- The context inside an element that is read, by its row's place.
use Prim.Native.Nat.{ℕ, ◌≤◌}
use mathlib.Core.Path.{◌≡◌, refl, sym, ap, ◌∙◌}
use native.Mathlib.Omega.{arith}
use mathlib.Core.List.{List, [], ◌∷◌, map}
use lib.ListN.{length, get_or, get_or-eq_default, length-map}
use Rattle.std.specs.Prelude.{Option, Some, None}
use Rattle.std.specs.Option.{option_map_or}
use Rattle.octets.specs.Bytes.{pick, same}
use Rattle.octets.specs.Text.{bytes}
use Rattle.words.specs.WorkingWords.{which_of}
use Rattle.words.proofs.Choices.{choice, answer, chosen, tab, alike, place-within}
use Rattle.reads.specs.declared.Context.{Context}
use Rattle.reads.specs.declared.Context.TheVariants.{PairLeaf, Skipped}
use Rattle.reads.specs.Names.{ReadElement, among}

abbrev pub insides : List ReadElement → List Context
insides rows = map (λ r. r.inside) rows

abbrev pub inside_at : List ReadElement → ℕ → Context
inside_at rows k = get_or (insides rows) k Skipped

-- behind the last row every element is skipped
pub no_row : (rows : List ReadElement) (k : ℕ) → length (insides rows) ≤ k → Skipped ≡ inside_at rows k
no_row rows k h = sym (get_or-eq_default (insides rows) Skipped h)

-- in the row at a place; where there is none, the element is skipped
abbrev pub inside_of : List ReadElement → Option ℕ → Context
inside_of rows None = Skipped
inside_of rows (Some k) = inside_at rows k

abbrev pub read_names : List ReadElement → List (List ℕ)
read_names rows = map (λ r. bytes r.name) rows

among-is : (rows : List ReadElement) (w : List ℕ) → choice Skipped (read_names rows) (insides rows) w ≡ among rows w
unfolding among
among-is [] w = refl
among-is (r ∷ rs) w = ap (pick (same w (bytes r.name)) r.inside) (among-is rs w)

-- what is behind the last row is what stands where there is none
answered : (rows : List ReadElement) (o : Option ℕ) → inside_of rows o ≡ answer Skipped (length (read_names rows)) (insides rows) o
answered rows None = no_row rows (length (read_names rows)) (omega (arith, length-map rows (λ r. r.inside), length-map rows (λ r. bytes r.name)))
answered rows (Some k) = refl

-- by the place of the name among those of the rows
pub read-inside : (rows : List ReadElement) (w : List ℕ) {o : Option ℕ} → o ≡ which_of (read_names rows) w → inside_of rows o ≡ among rows w
read-inside rows w {o} h = answered rows o ∙ chosen Skipped (read_names rows) (insides rows) w h ∙ among-is rows w

-- where the rows are the leaves of a pair
pub leaf-inside : (rows : List ReadElement) → tab (length rows) PairLeaf ≡ tab (length rows) (inside_at rows) → length (read_names rows) ≡ length rows → (w : List ℕ)
    → option_map_or PairLeaf (which_of (read_names rows) w) Skipped ≡ among rows w
leaf-inside rows same long w = go (which_of (read_names rows) w) refl
  where
    go : (o : Option ℕ) → o ≡ which_of (read_names rows) w → option_map_or PairLeaf o Skipped ≡ among rows w
    go None e = read-inside rows w e
    go (Some k) e = alike PairLeaf (inside_at rows) (length rows) same k (rw long at (place-within (read_names rows) w e)) ∙ read-inside rows w e
