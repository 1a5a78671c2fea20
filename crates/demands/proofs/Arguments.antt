-- What the theorems over contracts take: the lifetimes and arguments of a call, as the toolchain reads them.
use Prim.Native.Nat.{ℕ, zero, suc}
use mathlib.Core.List.{List}
use denote.Bor.{Bor}
use denote.MutBor.{MutBor}
use Rattle.ledger.specs.declared.Row.{Row}

-- n lifetimes
abbrev pub Lifetimes : ℕ → Type 0
Lifetimes zero = Unit {0}
Lifetimes (suc n) = List ℕ × Lifetimes n

-- a slice that is lent, and one that is lent to be written
abbrev pub Lent : Type 0
Lent = Bor (List ℕ)

abbrev pub Output : Type 0
Output = MutBor (List ℕ)

-- n slices that are lent, one after the other, and behind them what A is
abbrev pub Behind : ℕ → Type 0 → Type 0
Behind zero A = A
Behind (suc n) A = Lent × Behind n A

-- n slices that are lent, and n that are lent to be written
abbrev pub Slices : ℕ → Type 0
Slices n = Behind n (Unit {0})

abbrev pub Outputs : ℕ → Type 0
Outputs zero = Unit {0}
Outputs (suc n) = Output × Outputs n

-- rows that are lent to be written
abbrev pub Rows : Type 0
Rows = MutBor (List Row)

-- originator, event, locations, period, day, hour, minute, station and output, as a caller names them
abbrev pub Named : Type 0
Named = ℕ × (Lent × (Lent × (ℕ × (ℕ × (ℕ × (ℕ × (Lent × Outputs 1)))))))

-- the output
abbrev pub out_of : Named → Output
out_of a = a.1.1.1.1.1.1.1.1.0
