-- Faults as bits, and the field: the lowest of 1 to 6 at fault, else 7.
use Rattle.std.specs.Prelude.{ℕ, zero, suc, ◌+◌, ◌*◌, List, [], ◌∷◌, Bool, true, false}

abbrev pub bit : Bool → ℕ
bit true = 1
bit false = 0

-- the faults as bits, the first field the lowest bit
abbrev pub bits_of : List Bool → ℕ
bits_of [] = 0
bits_of (b ∷ bs) = bits_of bs * 2 + bit b

-- the lowest field at fault, counted from 1, or 0
abbrev pub one_on : ℕ → ℕ
one_on zero = zero
one_on (suc n) = suc (suc n)

abbrev pub lowest : List Bool → ℕ
lowest [] = 0
lowest (true ∷ bs) = 1
lowest (false ∷ bs) = one_on (lowest bs)
