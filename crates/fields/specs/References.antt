-- References: 1 to 16 groups `sender,identifier,sent` parted by space.
use Rattle.std.specs.Prelude.{ℕ, List, [], ◌∷◌, eqb}
use Rattle.octets.specs.Bytes.{pick}

-- what stands before the first c; all where there is none
unfoldable pub up_to : ℕ → List ℕ → List ℕ
up_to c [] = []
up_to c (x ∷ xs) = pick (eqb x c) [] (x ∷ up_to c xs)

-- what stands behind it; nothing where there is none
unfoldable pub behind : ℕ → List ℕ → List ℕ
behind c [] = []
behind c (x ∷ xs) = pick (eqb x c) xs (behind c xs)

-- ---- a group: sender, identifier and sent, parted by commas

abbrev pub sender_of : List ℕ → List ℕ
sender_of w = up_to 44 w

abbrev pub identifier_of : List ℕ → List ℕ
identifier_of w = up_to 44 (behind 44 w)

abbrev pub sent_of : List ℕ → List ℕ
sent_of w = behind 44 (behind 44 w)

-- ---- groups, parted by space

abbrev pub longer : ℕ → List (List ℕ) → List (List ℕ)
longer c [] = (c ∷ []) ∷ []
longer c (w ∷ ws) = (c ∷ w) ∷ ws

unfoldable pub words : List ℕ → List (List ℕ)
words [] = [] ∷ []
words (c ∷ cs) = pick (eqb c 32) ([] ∷ words cs) (longer c (words cs))
