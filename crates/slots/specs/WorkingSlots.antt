-- A record by its index, records one after the other, and where a record goes.
use Rattle.std.specs.Prelude.{ℕ, suc, ◌*◌, Result, Ok, Err, List, [], ◌∷◌, ◌++◌}
use Rattle.octets.specs.Bytes.{part}
use Rattle.octets.specs.Order.{cmp, choose}

-- the record at index i
abbrev pub rec : ℕ → List ℕ → List ℕ
rec i s = part s (i * 384) 384

-- records one after the other
abbrev pub flat : List (List ℕ) → List ℕ
flat [] = []
flat (r ∷ rs) = r ++ flat rs

-- one further on
abbrev pub later : Result ℕ ℕ → Result ℕ ℕ
later (Err k) = Err (suc k)
later (Ok k) = Ok (suc k)

-- where r goes in a strictly ascending list: a new one before the first record that is after it (Err), or where it is held (Ok)
abbrev pub place_of : List ℕ → List (List ℕ) → Result ℕ ℕ
place_of r [] = Err 0
place_of r (x ∷ xs) = choose (cmp r x) (Err 0) (Ok 0) (later (place_of r xs))
