-- The tree of a message: an element holds text, comments and elements, and those elements hold the same, to a depth.
--     elem_at s d i      the element at i, with d levels left, its own among them
--     content_at s d i   what an element holds that begins at i, up to its end tag, with d levels left for the elements in it
-- Each piece takes at least a byte, so as many turns as the message has bytes, and one for the end tag, are enough.
use Rattle.std.specs.Prelude.{ℕ, zero, suc, List, length}
use Rattle.pieces.specs.Pieces.{piece_at}
use Rattle.std.specs.Prelude.{Option, Some, None}
use Rattle.pieces.specs.declared.Piece.{Piece}
use Rattle.pieces.specs.declared.Piece.TheVariants.{Text, Note, Child, Close, Bad}
use Rattle.tags.specs.Tags.{open_at, close_at}
use Rattle.tags.specs.declared.Open.{Open}
use Rattle.tags.specs.declared.Open.TheVariants.{Full, Empty, Shut}

-- an element's places: its start tag, where its name ends, where what it holds begins, and where that ends
pub record Tag : Type 0 where
  pub from : ℕ
  pub name : ℕ
  pub body : ℕ
  pub shut : ℕ

-- what an element holds, in order; comments are left out
pub data Forest : Type 0 where
  nil : Forest
  text : ℕ → ℕ → Forest → Forest  -- text from, to; what follows
  elem : Tag → Forest → Forest → Forest  -- an element: its places; what it holds; what follows

-- an element: its places, what it holds, where it ends
pub data One : Type 0 where
  one : Tag → Forest → ℕ → One
  none : One

-- what is held, and where the end tag stands
pub data Held : Type 0 where
  held : Forest → ℕ → Held
  bad : Held

-- one more in front of what is held
unfoldable pub in_front : (Forest → Forest) → Held → Held
in_front f (held t j) = held (f t) j
in_front f bad = bad

-- an element, and then the rest
unfoldable pub child : One → (ℕ → Held) → Held
child (one g kids j) rest = in_front (elem g kids) (rest j)
child none rest = bad

-- the piece at i, and then the rest; an end tag ends what is held
unfoldable pub piece_then : (ℕ → One) → ℕ → Piece → (ℕ → Held) → Held
piece_then el i (Text j) rest = in_front (text i j) (rest j)
piece_then el i (Note j) rest = rest j
piece_then el i Child rest = child (el i) rest
piece_then el i Close rest = held nil i
piece_then el i Bad rest = bad

-- what is held from i on, in n turns at most, where el reads an element
unfoldable pub items : (ℕ → One) → List ℕ → ℕ → ℕ → Held
items el s zero i = bad
items el s (suc n) i = piece_then el i (piece_at s i) (items el s n)

-- the end tag, if it stands there
unfoldable pub sealed : Tag → Forest → Option ℕ → One
sealed g kids (Some e) = one g kids e
sealed g kids None = none

-- what is held, and the end tag that repeats the name
unfoldable pub closed : List ℕ → ℕ → ℕ → ℕ → Held → One
closed s i a j (held kids k) = sealed (record { from = i; name = a; body = j; shut = k }) kids (close_at s i a k)
closed s i a j bad = none

-- a start tag, and what follows it
unfoldable pub opened : List ℕ → ℕ → Open → (ℕ → Held) → One
opened s i (Full a j) inner = closed s i a j (inner j)
opened s i (Empty a j) inner = one (record { from = i; name = a; body = j; shut = j }) nil j
opened s i Shut inner = none

-- the element at i, with d levels left, its own among them
unfoldable pub elem_at : List ℕ → ℕ → ℕ → One
elem_at s zero i = none
elem_at s (suc d) i = opened s i (open_at s i) (items (elem_at s d) s (suc (length s)))

-- what an element holds that begins at i, with d levels left for the elements in it
abbrev pub content_at : List ℕ → ℕ → ℕ → Held
content_at s d i = items (elem_at s d) s (suc (length s)) i
