-- A whole message: an optional declaration, white space and comments, one root element, white space and comments, end.
use Rattle.std.specs.Prelude.{ℕ, ◌+◌, Bool, ◌&&◌, not, List, length, eqb}
use Rattle.octets.specs.Bytes.{pick, byte_at, stands, is_space}
use Rattle.octets.specs.Scan.{scan_by}
use Rattle.octets.specs.Text.{bytes}
use Rattle.characters.specs.Utf8.{coded_at, coded_width}
use Rattle.pieces.specs.Walk.{walk_at}
use Rattle.pieces.specs.Pieces.{note_at}
use Rattle.std.specs.Prelude.{Option, Some, None}
use Rattle.pieces.specs.declared.Step.{Step}
use Rattle.pieces.specs.declared.Step.TheVariants.{Go, Stop, Stuck}
use Rattle.markup.specs.Tree.{One, one, none, elem_at}

-- anything up to the first `?>`, in UTF-8
unfoldable pub in_declaration : List ℕ → ℕ → Bool
in_declaration s i = coded_at s i && not (stands (bytes "?>") s i)

-- an optional declaration, at i: `<?xml`, one white space, anything up to the first `?>`
unfoldable pub declaration_at : List ℕ → ℕ → Option ℕ
declaration_at s i =
    let e = scan_by (coded_width s) (in_declaration s) (length s) (i + 6) in
    pick (stands (bytes "<?xml") s i) (pick (is_space (byte_at s (i + 5))) (pick (stands (bytes "?>") s e) (Some (e + 2)) None) None) (Some i)

unfoldable pub go_on : Option ℕ → Step
go_on (Some j) = Go j
go_on None = Stuck

-- over a white space, over a comment, or done where neither begins
unfoldable pub misc_step : List ℕ → ℕ → Step
misc_step s i =
    pick (is_space (byte_at s i)) (Go (i + 1)) (pick (stands (bytes "<!--") s i) (go_on (note_at s i)) (Stop i))

-- white space and comments: where they end that begin at i
unfoldable pub misc_at : List ℕ → ℕ → Option ℕ
misc_at s i = walk_at (misc_step s) s i

-- behind the declaration, white space and comments
unfoldable pub led : List ℕ → Option ℕ → Option ℕ
led s (Some a) = misc_at s a
led s None = None

-- what stands before the root, from i on: where it ends
unfoldable pub before_root : List ℕ → ℕ → Option ℕ
before_root s i = led s (declaration_at s i)

-- behind the root, white space and comments go to the end
unfoldable pub ended : List ℕ → One → Option ℕ → One
ended s o (Some j) = pick (eqb j (length s)) o none
ended s o None = none

unfoldable pub rooted : List ℕ → One → One
rooted s (one g kids j) = ended s (one g kids j) (misc_at s j)
rooted s none = none

-- one root element, to a depth of 12, the root being 1
unfoldable pub root_at : List ℕ → Option ℕ → One
root_at s (Some i) = rooted s (elem_at s 12 i)
root_at s None = none

-- the root of a message of the subset, read from the first byte on, with its place and what it holds; none where the message is not of the subset
unfoldable pub doc_at : List ℕ → One
doc_at s = root_at s (before_root s 0)
