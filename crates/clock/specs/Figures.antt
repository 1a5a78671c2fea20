-- Proved (P), as a single table under a single statement: `All figures`.
use Rattle.std.specs.Prelude.{ℕ, ◌≡◌, List, [], ◌∷◌, ◌++◌}
use Prim.Native.String.{String}
use Rattle.octets.specs.Text.{bytes}
use Rattle.clock.specs.Time.{time_of}
use Rattle.clock.specs.Period.{period_of}
use Rattle.clock.specs.Stamp.{stamped}
use Rattle.clock.specs.Written.{tttt}
use Rattle.std.specs.Prelude.{Option, Some, None}

-- a row of the table
pub data FigureRow : Type 0 where
  seconds : ℕ → String → FigureRow
  sent : String → String → FigureRow
  no_date : String → FigureRow

-- the JJJHHMM of a time, if it is one
unfoldable pub stamp_written : Option ℕ → List ℕ
stamp_written (Some n) = stamped n
stamp_written None = []

-- seconds n give TTTT; sent gives JJJHHMM; what is no date begins no time
unfoldable pub FigureHolds : FigureRow → Type 0
FigureHolds (seconds n t) = tttt (period_of n) ≡ bytes t
FigureHolds (sent t j) = stamp_written (time_of (bytes t)) ≡ bytes j
FigureHolds (no_date d) = (rest : List ℕ) → time_of (bytes d ++ rest) ≡ None

-- the statement
unfoldable pub AllFigures : List FigureRow → Type 0
AllFigures [] = Unit {0}
AllFigures (r ∷ rs) = FigureHolds r × AllFigures rs

-- the table
unfoldable pub figures : List FigureRow
figures =
    seconds 1 "0015"
    ∷ seconds 900 "0015"
    ∷ seconds 901 "0030"
    ∷ seconds 2700 "0045"
    ∷ seconds 2701 "0100"
    ∷ seconds 3600 "0100"
    ∷ seconds 3601 "0130"
    ∷ seconds 358200 "9930"
    ∷ seconds 358201 "9930"
    ∷ sent "2012-12-31T23:30:00-01:00" "0010030"
    ∷ sent "2012-12-31T18:00:00-00:00" "3661800"
    ∷ no_date "2011-02-29"
    ∷ []
