-- Both calls of a conversion give the same number and field when all outputs are long enough: of any calls that meet demand 1, by their rows, which are then the same.
--     both-alike, library-alike
use Prim.Native.Nat.{ℕ, ◌≤◌}
use mathlib.Core.Path.{◌≡◌, sym, ap, ◌∙◌}
use mathlib.Core.Bool.{Bool}
use mathlib.Core.List.{List, [], ◌∷◌}
use borrow.Author.Tests.{le-leb}
use lib.Dec.{leb}
use Rattle.octets.specs.Bytes.{every, holds}
use Rattle.octets.proofs.Tests.{every_of}
use Rattle.demands.specs.Calls.{Calls, library}
use Rattle.demands.specs.Numbers.{lowest_in, field_beside, call_rows}
use Rattle.demands.specs.Demands.{Demand1, BothAlike}
use Rattle.demands.proofs.Demand1.{demand-1}

module _ (c : Calls) (d : Demand1 c) (s station : List ℕ) (h t u : ℕ) (a : 252 ≤ h) (b : 7200 ≤ t) (e : 1024 ≤ u) where
  both_long : leb 252 h ≡ every holds (leb 7200 t ∷ leb 1024 u ∷ [])
  both_long = le-leb 252 h a ∙ sym (every_of (leb 7200 t ∷ leb 1024 u ∷ []) (le-leb 7200 t b, (le-leb 1024 u e, tt)))

  number_same : (c.heading s station h).number ≡ (c.texting s station t u).number
  number_same =
      (d.header-numbered s station h).lowest
      ∙ ap (λ (long : Bool). lowest_in (call_rows long s station)) both_long
      ∙ sym (d.text-numbered s station t u).lowest

  field-same : (c.heading s station h).field ≡ (c.texting s station t u).field
  field-same = d.header-field s station h ∙ ap (λ (n : ℕ). field_beside n s) number_same ∙ sym (d.text-field s station t u)

pub both-alike : (c : Calls) → Demand1 c → BothAlike c
both-alike c d = record { same_number = number_same c d; same-field = field-same c d }

pub library-alike : BothAlike library
library-alike = both-alike library demand-1
