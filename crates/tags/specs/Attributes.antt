-- Attributes: the one that comes next in a start tag, one by its name, and a value decoded.
use Rattle.std.specs.Prelude.{ℕ, zero, suc, ◌+◌, ◌-◌, true, false, List, [], ◌∷◌, length, eqb, leb}
use Rattle.octets.specs.Bytes.{pick, byte_at, part, same, is_space}
use Rattle.octets.specs.Scan.{past}
use Rattle.pieces.specs.Walk.{walk_at}
use Rattle.pieces.specs.Pieces.{name_at, char_at}
use Rattle.std.specs.Prelude.{Option, Some, None}
use Rattle.pieces.specs.declared.Step.{Step}
use Rattle.pieces.specs.declared.Step.TheVariants.{Go, Stop, Stuck}
use Rattle.tags.specs.declared.Attr.{Attr}
use Rattle.tags.specs.declared.Attr.TheVariants.{Of, Last, Bad}

-- ---- values

unfoldable pub over : Option (ℕ × ℕ) → Step
over (Some (c, j)) = Go j
over None = Stuck

-- a step through a value that q quotes: to its end, or over a character, which is no `<`
unfoldable pub bit_at : List ℕ → ℕ → ℕ → Step
bit_at s q i = pick (eqb (byte_at s i) q) (Stop (i + 1)) (over (char_at s i))

-- a value in single or double quotes that holds no `<`: where it ends
unfoldable pub quoted_at : List ℕ → ℕ → Option ℕ
quoted_at s i =
    let q = byte_at s i in
    pick (eqb q 34) (walk_at (bit_at s 34) s (i + 1)) (pick (eqb q 39) (walk_at (bit_at s 39) s (i + 1)) None)

unfoldable pub character_then : Option (ℕ × ℕ) → (ℕ → List ℕ) → List ℕ
character_then (Some (c, j)) rest = c ∷ rest j
character_then None rest = []

-- the characters up to the quote q from i on, n at most
unfoldable pub decoded_from : List ℕ → ℕ → ℕ → ℕ → List ℕ
decoded_from s q zero i = []
decoded_from s q (suc n) i = elim (eqb (byte_at s i) q) [ true ↦ [] | false ↦ character_then (char_at s i) (decoded_from s q n) ]

-- the value that begins with its quote at i, decoded and otherwise as it stands
unfoldable pub decoded_at : List ℕ → ℕ → List ℕ
decoded_at s i = decoded_from s (byte_at s i) (length s) (i + 1)

-- ---- the next attribute

unfoldable pub attribute_of : ℕ → ℕ → ℕ → Option ℕ → Attr
attribute_of j e v (Some w) = Of j e v w
attribute_of j e v None = Bad

-- with `=` (white space allowed round it) and a value, behind a name from j to e
unfoldable pub equalled : List ℕ → ℕ → Option ℕ → Attr
equalled s j (Some e) =
    let q = past is_space s e in
    let v = past is_space s (q + 1) in
    pick (eqb (byte_at s q) 61) (attribute_of j e v (quoted_at s v)) Bad
equalled s j None = Bad

-- start tags carry attributes, each after white space; there are no more where, after white space that may be there, `>` or `/` stands
unfoldable pub attr_at : List ℕ → ℕ → Attr
attr_at s i =
    let j = past is_space s i in
    pick (eqb (byte_at s j) 62) (Last j) (pick (eqb (byte_at s j) 47) (Last j) (pick (eqb j i) Bad (equalled s j (name_at s j))))

-- ---- an attribute by its name

unfoldable pub sought : List ℕ → List ℕ → ℕ → Attr → Step
sought s w stop (Of a b v e) = pick (leb stop a) Stuck (pick (same (part s a (b - a)) w) (Stop v) (Go e))
sought s w stop (Last k) = Stuck
sought s w stop Bad = Stuck

unfoldable pub seek_at : List ℕ → List ℕ → ℕ → ℕ → Step
seek_at s w stop i = sought s w stop (attr_at s i)

-- where the value stands of the first attribute with the name w, of those that follow i and begin before `stop`
unfoldable pub attr_named : List ℕ → List ℕ → ℕ → ℕ → Option ℕ
attr_named s w i stop = walk_at (seek_at s w stop) s i
