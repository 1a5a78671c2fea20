-- Where a reader stands in its message.
use Rattle.std.specs.Prelude.{ℕ, List, length}
use Rattle.std.specs.Prelude.{Option, Some, None}

-- behind what it has read; at the message's end, where nothing begins, if that is not of the subset
unfoldable pub reached : List ℕ → Option ℕ → ℕ
reached s (Some j) = j
reached s None = length s
