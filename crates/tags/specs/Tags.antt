-- Start tags and end tags.
use Rattle.std.specs.Prelude.{ℕ, ◌+◌, ◌-◌, List, eqb}
use Rattle.octets.specs.Bytes.{pick, byte_at, part, stands, is_space}
use Rattle.octets.specs.Scan.{past}
use Rattle.octets.specs.Text.{bytes}
use Rattle.pieces.specs.Walk.{walk_at}
use Rattle.pieces.specs.Pieces.{name_at}
use Rattle.std.specs.Prelude.{Option, Some, None}
use Rattle.pieces.specs.declared.Step.{Step}
use Rattle.pieces.specs.declared.Step.TheVariants.{Go, Stop, Stuck}
use Rattle.tags.specs.Attributes.{attr_at, attr_named}
use Rattle.tags.specs.declared.Attr.{Attr}
use Rattle.tags.specs.declared.Attr.TheVariants.{Of, Last, Bad}
use Rattle.tags.specs.declared.Open.{Open}
use Rattle.tags.specs.declared.Open.TheVariants.{Full, Empty, Shut}

-- the same attribute name twice is refused: e is where it stood before
unfoldable pub unless_named : Option ℕ → ℕ → Step
unless_named (Some v) w = Stuck
unless_named None w = Go w

unfoldable pub taken : List ℕ → ℕ → Attr → Step
taken s a (Of j e v w) = unless_named (attr_named s (part s j (e - j)) a j) w
taken s a (Last j) = Stop j
taken s a Bad = Stuck

-- one attribute of those that begin at a
unfoldable pub take_at : List ℕ → ℕ → ℕ → Step
take_at s a i = taken s a (attr_at s i)

-- white space may precede `>` or `/>`
unfoldable pub shut_at : List ℕ → ℕ → Option ℕ → Open
shut_at s a (Some j) = pick (eqb (byte_at s j) 62) (Full a (j + 1)) (pick (stands (bytes "/>") s j) (Empty a (j + 2)) Shut)
shut_at s a None = Shut

-- the rest of a start tag whose name ends at a
unfoldable pub tail_at : List ℕ → ℕ → Open
tail_at s a = shut_at s a (walk_at (take_at s a) s a)

unfoldable pub tailed : List ℕ → Option ℕ → Open
tailed s (Some a) = tail_at s a
tailed s None = Shut

-- a start tag: `<`, a name, attributes, `>` or `/>`
unfoldable pub open_at : List ℕ → ℕ → Open
open_at s i = pick (eqb (byte_at s i) 60) (tailed s (name_at s (i + 1))) Shut

-- an end tag at j repeats the name from i + 1 to a exactly, then optional white space
unfoldable pub close_at : List ℕ → ℕ → ℕ → ℕ → Option ℕ
close_at s i a j =
    let w = part s (i + 1) (a - (i + 1)) in
    let e = past is_space s (j + 2 + (a - (i + 1))) in
    pick (stands (bytes "</") s j) (pick (stands w s (j + 2)) (pick (eqb (byte_at s e) 62) (Some (e + 1)) None) None) None
