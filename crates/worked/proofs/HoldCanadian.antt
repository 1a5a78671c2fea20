-- The table of the Canadian mode holds: each row computes. Short outputs stand beside it.
use Prim.Native.Nat.{ℕ}
use mathlib.Core.Path.{◌≡◌, refl}
use mathlib.Core.Bool.{Bool, true}
use mathlib.Core.List.{List, [], ◌∷◌}
use borrow.Author.Tests.{eqb-true}
use lib.Dec.{eqb}
use Rattle.octets.specs.Bytes.{every, holds, same}
use Rattle.octets.proofs.Tests.{each_of, every_first, every_rest, every_append}
use Rattle.octets.proofs.Sames.{same-is}
use Rattle.outputs.specs.Outputs.{TextOutcome}
use Rattle.outputs.specs.WorkingOutputs.{text_refused}
use Rattle.canadian.specs.WorkingCanadian.{canadian_of}
use Rattle.worked.specs.Table.{changed, pieces_written}
use Rattle.worked.specs.Canadian.{CanadianRow, canadian_row_outcome, CanadianHolds, AllCanadian, broadcasts, descriptions, asked, canadian_resources, canadian_table}
use Rattle.worked.proofs.Opens.{converting}

-- two outcomes agree in each part
abbrev agree : TextOutcome → TextOutcome → List Bool
agree o p =
    eqb o.number p.number
    ∷ eqb o.field p.field
    ∷ same o.given.text p.given.text
    ∷ eqb o.given.audio p.given.audio
    ∷ same o.given.uri p.given.uri
    ∷ []

agree-is : (o p : TextOutcome) → every holds (agree o p) ≡ true → o ≡ p
agree-is o p e =
    let a = each_of _ e in
    rw (
      eqb-true o.number p.number a.0,
      eqb-true o.field p.field a.1.0,
      same-is o.given.text p.given.text a.1.1.0,
      eqb-true o.given.audio p.given.audio a.1.1.1.0,
      same-is o.given.uri p.given.uri a.1.1.1.1.0,
    )

-- a row as a test
abbrev answers : CanadianRow → Bool
answers r = every holds (agree (canadian_of r.message 7200 1024) (canadian_row_outcome r))

all_hold : (rs : List CanadianRow) → every answers rs ≡ true → AllCanadian rs
unfolding AllCanadian CanadianHolds
all_hold [] e = tt
all_hold (r ∷ rs) e = (agree-is _ _ (every_first answers r rs e), all_hold rs (every_rest answers r rs e))

broadcasts-hold : every answers broadcasts ≡ true
unfolding converting changed pieces_written broadcasts
broadcasts-hold = refl

descriptions-hold : every answers descriptions ≡ true
unfolding converting changed pieces_written descriptions
descriptions-hold = refl

asked-hold : every answers asked ≡ true
unfolding converting changed pieces_written asked
asked-hold = refl

resources-hold : every answers canadian_resources ≡ true
unfolding converting changed pieces_written canadian_resources
resources-hold = refl

pub canadian-holds : AllCanadian canadian_table
unfolding canadian_table
canadian-holds =
    all_hold _
    (every_append answers broadcasts _ broadcasts-hold
    (every_append answers descriptions _ descriptions-hold (every_append answers asked _ asked-hold resources-hold)))

-- 2 asks the text and uri outputs only, one byte less than the table's rows have or nothing at all, before any other number: the empty message too
pub short-text : (message : List ℕ) → canadian_of message 7199 1024 ≡ text_refused 2 0
unfolding converting
short-text message = refl

pub short-uri : (message : List ℕ) → canadian_of message 7200 1023 ≡ text_refused 2 0
unfolding converting
short-uri message = refl

pub nothing_lent : (message : List ℕ) → canadian_of message 0 0 ≡ text_refused 2 0
unfolding converting
nothing_lent message = refl
