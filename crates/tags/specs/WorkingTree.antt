-- Working definitions, for private promises only: the tree of the names that were seen in a tag with many attributes.
-- Node k is four cells from 4 * k on: where its name begins, where it ends, and the nodes at which ways go on that turn by 0 and by 1, or 0 and free.
use Rattle.std.specs.Prelude.{ℕ, zero, suc, ◌+◌, ◌-◌, ◌*◌, ◌/◌, ◌%◌, ◌^◌, ◌<◌, ◌≤◌, ◌≡◌, Bool, true, false, List, length, get_or, set}
use Rattle.octets.specs.Bytes.{pick, byte_at, part, same}
use Rattle.std.specs.Prelude.{Option, Some, None}
use Rattle.pieces.specs.declared.Step.{Step}
use Rattle.pieces.specs.declared.Step.TheVariants.{Go, Stop, Stuck}
use Rattle.tags.specs.Attributes.{attr_at}
use Rattle.tags.specs.declared.Attr.{Attr}
use Rattle.tags.specs.declared.Attr.TheVariants.{Of, Last, Bad}

abbrev pub nodes : ℕ
nodes = 2048

abbrev pub cells : ℕ
cells = 8192

-- ---- ways

-- bit d of the name w
unfoldable pub bit_of : List ℕ → ℕ → ℕ
bit_of w d = byte_at w (d / 8) / 2 ^ (d % 8) % 2

-- the cell by which the way of w goes on from node k, the d-th on it
abbrev pub cell_of : List ℕ → ℕ → ℕ → ℕ
cell_of w d k = 4 * k + 2 + bit_of w d

unfoldable pub node_name : List ℕ → List ℕ → ℕ → List ℕ
node_name s t k = part s (get_or t (4 * k) 0) (get_or t (4 * k + 1) 0 - get_or t (4 * k) 0)

-- on to the node that the cell x holds, if it is not free
unfoldable pub node_on : ℕ → ℕ → (ℕ → Option ℕ) → Option ℕ
node_on zero x rest = Some x
node_on (suc k) x rest = rest (suc k)

-- the free cell at which the way of w ends, from node k on and m nodes at most; No where a node has that name
unfoldable pub way_from : List ℕ → List ℕ → List ℕ → ℕ → ℕ → ℕ → Option ℕ
way_from s t w zero d k = None
way_from s t w (suc m) d k = pick (same (node_name s t k) w) None (node_on (get_or t (cell_of w d k) 0) (cell_of w d k) (way_from s t w m (d + 1)))

abbrev pub way : List ℕ → List ℕ → List ℕ → Option ℕ
way s t w = way_from s t w (length t) 0 0

-- ---- trees

-- n nodes, whose names stand in s; the first has none, and ways go on to later ones
pub record NameTree (s t : List ℕ) (n : ℕ) : Type 0 where
  pub some : 0 < n
  pub fits : n ≤ nodes
  pub long : length t ≡ cells
  pub root : get_or t 1 0 ≡ 0
  pub begins : (k : ℕ) → get_or t (4 * k) 0 ≤ get_or t (4 * k + 1) 0
  pub ends : (k : ℕ) → get_or t (4 * k + 1) 0 ≤ length s
  pub onto : (k b : ℕ) → b < 2 → get_or t (4 * k + 2 + b) 0 < n
  pub rises : (k b : ℕ) → b < 2 → 0 < get_or t (4 * k + 2 + b) 0 → k < get_or t (4 * k + 2 + b) 0

-- with node n, whose name goes from j to e, in the cell x
abbrev pub hung : List ℕ → ℕ → ℕ → ℕ → ℕ → List ℕ
hung t x n j e = set (set (set t x n) (4 * n) j) (4 * n + 1) e

-- no node had the name from j to e, and in u node n has
pub record Grown (s t u : List ℕ) (j e n : ℕ) : Type 0 where
  pub cell : ℕ
  pub free : way s t (part s j (e - j)) ≡ Some cell
  pub made : u ≡ hung t cell n j e

abbrev pub NameAdded : List ℕ → List ℕ → List ℕ → ℕ → ℕ → ℕ → Bool → Type 0
NameAdded s t u j e n true = Grown s t u j e n
NameAdded s t u j e n false = way s t (part s j (e - j)) ≡ None

-- ---- an attribute that is passed over

-- on to the attribute's end, if p takes its name and where that begins
unfoldable pub passed : List ℕ → (List ℕ → ℕ → Bool) → Attr → Step
passed s p (Of j e v w) = pick (p (part s j (e - j)) j) (Go w) Stuck
passed s p (Last j) = Stop j
passed s p Bad = Stuck

-- ---- attributes whose names no node has

unfoldable pub apart : Option ℕ → ℕ → Step
apart (Some x) w = Go w
apart None w = Stuck

unfoldable pub looked : List ℕ → List ℕ → Attr → Step
looked s t (Of j e v w) = apart (way s t (part s j (e - j))) w
looked s t (Last j) = Stop j
looked s t Bad = Stuck

unfoldable pub look_at : List ℕ → List ℕ → ℕ → Step
look_at s t i = looked s t (attr_at s i)
