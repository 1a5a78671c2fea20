-- The place of a value among names: the first is it, or it is not.
use Prim.Native.Nat.{ℕ}
use Prim.Native.String.{String}
use mathlib.Core.Path.{◌≡◌, sym, ◌∙◌}
use mathlib.Core.Bool.{Bool, true, false}
use mathlib.Core.List.{List, ◌∷◌}
use Rattle.octets.specs.Bytes.{same}
use Rattle.octets.specs.Text.{bytes}
use Rattle.fields.specs.WorkingFields.{place_on, index_in}

-- r says whether the value v is the first name
module _ (w : String) (ws : List String) (v : List ℕ) {r : Bool} (e : r ≡ same v (bytes w)) where
  pub named : r ≡ true → index_in (w ∷ ws) v ≡ 1
  unfolding index_in
  named h = rw (sym e ∙ h)

  pub not_named : r ≡ false → index_in (w ∷ ws) v ≡ place_on (index_in ws v)
  unfolding index_in
  not_named h = rw (sym e ∙ h)
