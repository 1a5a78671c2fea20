-- Lent bytes as records of 384 bytes.
use Rattle.std.specs.Prelude.{ℕ, zero, suc, List, [], ◌∷◌, take, drop}

-- the first n records
abbrev pub recs : ℕ → List ℕ → List (List ℕ)
recs zero s = []
recs (suc n) s = take 384 s ∷ recs n (drop 384 s)
