-- An offer of a message to a board: what it answers, and the board that it leaves.
use Rattle.std.specs.Prelude.{ℕ, List}
use Rattle.offers.specs.declared.Offered.{Offered}

-- what an offer answers, and the board's bytes after it
pub record MessageOffering : Type 0 where
  pub answer : Offered
  pub bytes : List ℕ
