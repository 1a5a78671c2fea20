-- The elements of a tree by name, in message order. s is the message and p the root's prefix.
use Rattle.std.specs.Prelude.{ℕ, ◌+◌, Bool, true, false, List, [], ◌∷◌}
use Prim.Native.String.{String}
use Rattle.octets.specs.Bytes.{pick, same}
use Rattle.octets.specs.Text.{bytes}
use Rattle.markup.specs.Tree.{Tag, Forest, nil, text, elem}
use Rattle.reads.specs.Names.{name_of}

-- ---- elements

pub record Element : Type 0 where
  pub tag : Tag
  pub holds : Forest

-- what an element is named, without the root's prefix; nothing where it does not carry it
abbrev pub name_in : List ℕ → List ℕ → Tag → List ℕ
name_in s p g = name_of s p (g.from + 1) g.name

abbrev pub keep : Bool → Element → List Element → List Element
keep b e es = pick b (e ∷ es) es

-- the elements that carry the root's prefix, or none if it has none, and this name; every other element is skipped whole
unfoldable pub named : List ℕ → List ℕ → String → Forest → List Element
named s p w nil = []
named s p w (text i j rest) = named s p w rest
named s p w (elem g kids rest) = keep (same (name_in s p g) (bytes w)) (record { tag = g; holds = kids }) (named s p w rest)

-- what is held is no element
unfoldable pub bare : Forest → Bool
bare nil = true
bare (text i j rest) = bare rest
bare (elem g kids rest) = false
