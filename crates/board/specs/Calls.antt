-- A hand-out and the list: all that each answers, and what it leaves in the lent bytes and rows.
use Rattle.std.specs.Prelude.{ℕ, List}
use Rattle.ledger.specs.declared.Row.{Row}
use Rattle.board.specs.declared.Handed.{Handed}
use Rattle.board.specs.declared.Listed.{Listed}

-- ---- a hand-out: 1 the board, 16 nothing due, 15 no empty record

pub record Handing : Type 0 where
  pub answer : Handed
  pub bytes : List ℕ

-- ---- the list, with m rows lent: 1 the board, 2 rows below the due count

-- rows are what is written from the start of the lent ones; rows past it stay
pub record Listing : Type 0 where
  pub answer : Listed
  pub rows : List Row
