-- A test of every element, as the library's `all` says it.
use mathlib.Core.Bool.{Bool, ◌&&◌}
use mathlib.Core.List.{List, [], ◌∷◌}
use mathlib.Core.Path.{◌≡◌, refl, ap}
use Rattle.octets.specs.Bytes.{every}
use Rattle.std.specs.List.{list_all}

pub all-is : {A : Type 0} (f : A → Bool) (xs : List A) → list_all f xs ≡ every f xs
unfolding every
all-is f [] = refl
all-is f (x ∷ xs) = ap (λ (b : Bool). f x && b) (all-is f xs)
