-- The place of a value among names, counted from 1, by its place in a table of them, counted from 0.
use Prim.Native.Nat.{ℕ, suc}
use Prim.Native.String.{String}
use mathlib.Core.Path.{◌≡◌, refl, ap, ◌∙◌}
use mathlib.Core.Bool.{Bool, true, false}
use mathlib.Core.List.{List, [], ◌∷◌}
use Rattle.std.specs.Prelude.{Option, Some, None, option_map}
use Rattle.octets.specs.Bytes.{pick, same}
use Rattle.octets.specs.Text.{bytes}
use Rattle.words.specs.WorkingWords.{which_of}
use Rattle.fields.specs.WorkingFields.{place_on, index_in}

-- counted from 1; 0 where there is none
abbrev pub from_one : Option ℕ → ℕ
from_one None = 0
from_one (Some k) = suc k

later : (o : Option ℕ) → from_one (option_map suc o) ≡ place_on (from_one o)
later None = refl
later (Some k) = refl

turn : (b : Bool) (o : Option ℕ) (n : ℕ) → from_one o ≡ n → from_one (pick b (Some 0) (option_map suc o)) ≡ pick b 1 (place_on n)
turn true o n e = refl
turn false o n e = later o ∙ ap place_on e

abbrev pub named : List String → List (List ℕ)
named [] = []
named (w ∷ ws) = bytes w ∷ named ws

at_place : (ws : List String) (v : List ℕ) → from_one (which_of (named ws) v) ≡ index_in ws v
unfolding which_of index_in
at_place [] v = refl
at_place (w ∷ ws) v = turn (same v (bytes w)) (which_of (named ws) v) (index_in ws v) (at_place ws v)

pub counted : (ws : List String) (t : List (List ℕ)) (v : List ℕ) {o : Option ℕ} → t ≡ named ws → o ≡ which_of t v → from_one o ≡ index_in ws v
counted ws t v e h = ap from_one (h ∙ ap (λ (u : List (List ℕ)). which_of u v) e) ∙ at_place ws v
