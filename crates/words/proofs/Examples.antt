-- Worked examples of the definitions.
use mathlib.Core.List.{List, [], ◌∷◌}
use mathlib.Core.Path.{◌≡◌, refl}
use Prim.Native.Nat.{ℕ}
use Rattle.std.specs.Prelude.{Some, None}
use Rattle.octets.specs.Bytes.{same}
use Rattle.octets.specs.Text.{bytes}
use Rattle.words.specs.WorkingWords.{words_of, which_of}
use Rattle.words.proofs.Choices.{choice}

abbrev table : List (List ℕ)
table = words_of (4 ∷ 6 ∷ 0 ∷ []) (bytes "sentsender")

pub record Tables : Type 0 where
  pub words : table ≡ bytes "sent" ∷ bytes "sender" ∷ [] ∷ []
  pub first : which_of table (bytes "sent") ≡ Some 0
  pub second : which_of table (bytes "sender") ≡ Some 1
  pub none : which_of table (bytes "send") ≡ None
  -- a length that goes beyond the end
  pub cut : words_of (4 ∷ 7 ∷ 1 ∷ []) (bytes "sentsender") ≡ bytes "sent" ∷ []
  -- behind the words stands the answer of a name that is none of them
  pub no_word : choice {A = ℕ} 0 [] (7 ∷ []) (bytes "sent") ≡ 7
  pub other_word : choice {A = ℕ} 0 table (4 ∷ 6 ∷ 5 ∷ 7 ∷ []) (bytes "send") ≡ 7

tables : Tables
unfolding words_of which_of same bytes
tables = record { words = refl; first = refl; second = refl; none = refl; cut = refl; no_word = refl; other_word = refl }
