-- The root: `alert` with `xmlns` equal to urn:oasis:names:tc:emergency:cap:1.2, or `p:alert` for one prefix p with `xmlns:p` equal to it. The root's name stands
-- from i to a.
use Rattle.std.specs.Prelude.{ℕ, ◌+◌, ◌-◌, Bool, false, ◌&&◌, not, List, [], ◌++◌, length, eqb, ltb}
use Rattle.octets.specs.Bytes.{pick, byte_at, part, same}
use Rattle.octets.specs.Scan.{scan}
use Rattle.octets.specs.Text.{bytes}
use Rattle.std.specs.Prelude.{Option, Some, None}
use Rattle.tags.specs.Attributes.{attr_named, decoded_at}
use Rattle.reads.specs.Names.{name_of}

-- in the name, and no colon
unfoldable pub before_colon : List ℕ → ℕ → ℕ → Bool
before_colon s a j = ltb j a && not (eqb (byte_at s j) 58)

-- where the colon of the name stands, and its end where there is none
unfoldable pub colon_at : List ℕ → ℕ → ℕ → ℕ
colon_at s i a = scan (before_colon s a) (length s) i

-- the prefix with its colon; nothing where there is none
unfoldable pub prefix_of : List ℕ → ℕ → ℕ → List ℕ
prefix_of s i a = pick (ltb (colon_at s i a) a) (part s i (colon_at s i a + 1 - i)) []

-- the attribute that has the namespace
unfoldable pub xmlns_of : List ℕ → ℕ → ℕ → List ℕ
xmlns_of s i a = pick (ltb (colon_at s i a) a) (bytes "xmlns:" ++ part s i (colon_at s i a - i)) (bytes "xmlns")

-- the attribute's value decoded and otherwise as it stands
unfoldable pub is_namespace : List ℕ → Option ℕ → Bool
is_namespace s (Some v) = same (decoded_at s v) (bytes "urn:oasis:names:tc:emergency:cap:1.2")
is_namespace s None = false

-- a root of the prefix p, whose namespace is the value of the attribute w
unfoldable pub root_with : List ℕ → List ℕ → List ℕ → ℕ → ℕ → Bool
root_with s p w i a = same (name_of s p i a) (bytes "alert") && is_namespace s (attr_named s w a (length s))

unfoldable pub root_ok : List ℕ → ℕ → ℕ → Bool
root_ok s i a = root_with s (prefix_of s i a) (xmlns_of s i a) i a
