-- What one parameter, of the name w and the value v, adds to the leaves of a table.
--     row_step_lem, rows_long   the leaf of each row; how many leaves there are
--     own_row, no-row-of-it     where a parameter is of one row at most, its own leaf alone changes
--     row-within                a row is one of the table's
--     exact-row, behind-exact   a row of an exact name is told by the name's place among them, one behind these by what stands there
--     row_is                    the row by both
--     apart                     a parameter that is read is of one row at most
use Prim.Native.Nat.{ℕ, zero, suc, ◌<◌}
use Prim.Native.String.{String}
use mathlib.Core.Path.{◌≡◌, refl, sym, ap, subst, ◌∙◌}
use mathlib.Core.Bool.{Bool, true, false}
use mathlib.Core.List.{List, [], ◌∷◌, ◌++◌, map}
use native.Mathlib.Omega.{arith}
use lib.ListN.{length, get_or, set}
use Rattle.std.specs.Prelude.{Option, Some, None, option_map}
use Rattle.std.specs.Bool.{then_some}
use Rattle.std.specs.Option.{MatchOption}
use Rattle.octets.specs.Bytes.{pick, every, same, between, is_capital}
use Rattle.octets.specs.Text.{bytes}
use Rattle.octets.proofs.Sames.{same-is}
use Rattle.values.specs.Value.{value_at, small}
use Rattle.words.specs.WorkingWords.{which_of}
use Rattle.reads.specs.declared.Leaf.{Leaf}
use Rattle.reads.specs.WorkingLeaves.{no_leaf, found}
use Rattle.reads.specs.WorkingParameters.{ReadParameter, exactly, eas_text, eas_must_carry, broadcast_text, read_parameters, is_of}
use Rattle.reads.specs.WorkingSteps.{row_step, rows_step, parameter_row}

module _ (s : List ℕ) (name value : Leaf) where
  pub rows_long : (rows : List ReadParameter) (ls : List Leaf) → length ls ≡ length rows → length (rows_step s name value rows ls) ≡ length rows
  unfolding rows_step
  rows_long [] ls h = refl
  rows_long (r ∷ rs) [] h = absurd (omega (arith, h))
  rows_long (r ∷ rs) (l ∷ ls) h = ap suc (rows_long rs ls (omega (arith, h)))

  pub row_step_lem : (rows : List ReadParameter) (ls : List Leaf) → length ls ≡ length rows → (k : ℕ) → k < length rows
      → get_or (rows_step s name value rows ls) k (no_leaf 0) ≡ row_step s name value (get_or rows k (exactly "")) (get_or ls k (no_leaf 0))
  unfolding rows_step
  row_step_lem [] ls h k x = absurd (omega (arith, x))
  row_step_lem (r ∷ rs) [] h k x = absurd (omega (arith, h))
  row_step_lem (r ∷ rs) (l ∷ ls) h zero x = refl
  row_step_lem (r ∷ rs) (l ∷ ls) h (suc k) x = row_step_lem rs ls (omega (arith, h)) k (omega (arith, x))

-- ---- a place behind one more

none-before : (o : Option ℕ) → option_map suc o ≡ None → o ≡ None
none-before None e = refl
none-before (Some j) e = cc

-- what holds of each place, holds of one behind one more
some-before : (C : ℕ → Type 0) (o : Option ℕ) → ((j : ℕ) → o ≡ Some j → C (suc j)) → (k : ℕ) → option_map suc o ≡ Some k → C k
some-before C None f k e = cc
some-before C (Some j) f k e = subst (λ (n : ℕ). C n) (cc) (f j refl)

-- ---- its own row

pub row-within : (rows : List ReadParameter) (w v : List ℕ) (k : ℕ) → parameter_row rows w v ≡ Some k → k < length rows
unfolding parameter_row
row-within [] w v k e = cc
row-within (r ∷ rs) w v k e = go (is_of r w v) e (λ j q. row-within rs w v j q)
  where
    go : (b : Bool) → pick b (Some 0) (option_map suc (parameter_row rs w v)) ≡ Some k → ((j : ℕ) → parameter_row rs w v ≡ Some j → j < length rs) → k < suc (length rs)
    go true e rest = let z : 0 ≡ k = cc in omega (arith, z)
    go false e rest = some-before (λ (k : ℕ). k < suc (length rs)) (parameter_row rs w v) (λ j q. omega (arith, rest j q)) k e

-- a parameter that is of one row is of none behind it
abbrev pub Apart : List ReadParameter → List ℕ → List ℕ → Type 0
Apart [] w v = Unit {0}
Apart (r ∷ rs) w v = (is_of r w v ≡ true → parameter_row rs w v ≡ None) × Apart rs w v

module _ (s : List ℕ) (name value : Leaf) where
  -- the row of this parameter
  abbrev row : List ReadParameter → Option ℕ
  row rows = parameter_row rows (value_at s name.at) (value_at s value.at)

  abbrev steps : List ReadParameter → List Leaf → List Leaf
  steps rows ls = rows_step s name value rows ls

  pub no-row-of-it : (rows : List ReadParameter) (ls : List Leaf) → length ls ≡ length rows → row rows ≡ None → steps rows ls ≡ ls
  unfolding rows_step parameter_row
  no-row-of-it [] [] h none = refl
  no-row-of-it [] (l ∷ ls) h none = absurd (omega (arith, h))
  no-row-of-it (r ∷ rs) [] h none = absurd (omega (arith, h))
  no-row-of-it (r ∷ rs) (l ∷ ls) h none = go (is_of r (value_at s name.at) (value_at s value.at)) none (no-row-of-it rs ls (omega (arith, h)))
    where
      go : (b : Bool) → pick b (Some 0) (option_map suc (row rs)) ≡ None → (row rs ≡ None → steps rs ls ≡ ls) → pick b (found l value.at) l ∷ steps rs ls ≡ l ∷ ls
      go true n rest = cc
      go false n rest = ap (λ xs. l ∷ xs) (rest (none-before (row rs) n))

  -- the leaves, where the one at k has one more of this value
  abbrev pub put_at : List Leaf → ℕ → List Leaf
  put_at ls k = set ls k (found (get_or ls k (no_leaf 0)) value.at)

  pub own_row : (rows : List ReadParameter) (ls : List Leaf) → length ls ≡ length rows → Apart rows (value_at s name.at) (value_at s value.at) → (k : ℕ) → row rows ≡ Some k
      → steps rows ls ≡ put_at ls k
  unfolding rows_step parameter_row
  own_row [] ls h a k x = cc
  own_row (r ∷ rs) [] h a k x = absurd (omega (arith, h))
  own_row (r ∷ rs) (l ∷ ls) h a k x = go (is_of r (value_at s name.at) (value_at s value.at)) x (λ e. no-row-of-it rs ls (omega (arith, h)) (a.0 e)) (own_row rs ls (omega (arith, h)) a.1)
    where
      go : (b : Bool) → pick b (Some 0) (option_map suc (row rs)) ≡ Some k → (b ≡ true → steps rs ls ≡ ls) → ((j : ℕ) → row rs ≡ Some j → steps rs ls ≡ put_at ls j)
          → pick b (found l value.at) l ∷ steps rs ls ≡ put_at (l ∷ ls) k
      go true n others rest = let z : 0 ≡ k = cc in rw (sym z) (ap (λ xs. found l value.at ∷ xs) (others refl))
      go false n others rest = some-before (λ (k : ℕ). l ∷ steps rs ls ≡ put_at (l ∷ ls) k) (row rs) (λ j q. ap (λ xs. l ∷ xs) (rest j q)) k n

-- ---- rows of exact names before others

-- a place behind n more
abbrev behind : ℕ → Option ℕ → Option ℕ
behind zero o = o
behind (suc n) o = option_map suc (behind n o)

module _ (w v : List ℕ) where
  -- the place of the name among these words
  abbrev place_in : List String → Option ℕ
  place_in ws = which_of (map bytes ws) w

  abbrev row_in : List String → List ReadParameter → Option ℕ
  row_in ws rest = parameter_row (map exactly ws ++ rest) w v

  pub exact-row : (ws : List String) (rest : List ReadParameter) (k : ℕ) → place_in ws ≡ Some k → row_in ws rest ≡ Some k
  unfolding parameter_row which_of
  exact-row [] rest k e = cc
  exact-row (x ∷ ws) rest k e = go (same w (bytes x)) e (exact-row ws rest)
    where
      go : (b : Bool) → pick b (Some 0) (option_map suc (place_in ws)) ≡ Some k → ((j : ℕ) → place_in ws ≡ Some j → row_in ws rest ≡ Some j)
          → pick b (Some 0) (option_map suc (row_in ws rest)) ≡ Some k
      go true n more = n
      go false n more = some-before (λ (k : ℕ). option_map suc (row_in ws rest) ≡ Some k) (place_in ws) (λ j q. ap (option_map suc) (more j q)) k n

  pub behind-exact : (ws : List String) (rest : List ReadParameter) → place_in ws ≡ None → row_in ws rest ≡ behind (length ws) (parameter_row rest w v)
  unfolding parameter_row which_of
  behind-exact [] rest e = refl
  behind-exact (x ∷ ws) rest e = go (same w (bytes x)) e (behind-exact ws rest)
    where
      go : (b : Bool) → pick b (Some 0) (option_map suc (place_in ws)) ≡ None → (place_in ws ≡ None → row_in ws rest ≡ behind (length ws) (parameter_row rest w v)) → pick b (Some 0) (option_map suc (row_in ws rest)) ≡ option_map suc (behind (length ws) (parameter_row rest w v))
      go true n more = cc
      go false n more = ap (option_map suc) (more (none-before (place_in ws) n))

-- ---- the parameters that are read

abbrev pub exact_names : List String
exact_names = "EAS-ORG" ∷ "EASText" ∷ "EAS-Must-Carry" ∷ []

-- by the place among the exact names, or else by the last row's test
pub row_is : (w v : List ℕ) (o r : Option ℕ) → MatchOption o (r ≡ then_some {T = ℕ} (is_of broadcast_text w v) 3) (λ k. r ≡ Some k) → o ≡ which_of (map bytes exact_names) w
    → r ≡ parameter_row read_parameters w v
unfolding parameter_row
row_is w v (Some k) r h e = h ∙ sym (exact-row w v exact_names (broadcast_text ∷ []) k (sym e))
row_is w v None r h e = h ∙ last (is_of broadcast_text w v) ∙ sym (behind-exact w v exact_names (broadcast_text ∷ []) (sym e))
  where
    last : (b : Bool) → then_some {T = ℕ} b 3 ≡ behind 3 (pick b (Some 0) None)
    last true = refl
    last false = refl

-- one of exactly this name is of no row that has another
others : (x : List ℕ) (rows : List ReadParameter) (w v : List ℕ) → parameter_row rows x v ≡ None → same w x ≡ true → parameter_row rows w v ≡ None
others x rows w v h e = rw (same-is w x e) h

pub apart : (w v : List ℕ) → Apart read_parameters w v
unfolding parameter_row bytes same small is_capital between every
apart w v = (
  others (bytes "EAS-ORG") (eas_text ∷ eas_must_carry ∷ broadcast_text ∷ []) w v refl,
  (
    others (bytes "EASText") (eas_must_carry ∷ broadcast_text ∷ []) w v refl,
    (others (bytes "EAS-Must-Carry") (broadcast_text ∷ []) w v refl, (λ e. refl, tt)),
  ),
)
