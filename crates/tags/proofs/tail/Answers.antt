-- A tag that ends right behind its name has no attributes.
use Prim.Native.Nat.{ℕ, ◌+◌}
use mathlib.Core.Path.{◌≡◌, sym, ap, ◌∙◌}
use mathlib.Core.Bool.{false}
use mathlib.Core.List.{List}
use lib.ListN.{length}
use Rattle.octets.specs.Bytes.{byte_at, one_of, is_space}
use Rattle.octets.specs.Scan.{past}
use Rattle.octets.proofs.Scans.{by-stop}
use Rattle.pieces.specs.Walk.{walk, walk_at, stepped}
use Rattle.std.specs.Prelude.{Some}
use Rattle.tags.specs.Attributes.{attr_at}
use Rattle.tags.specs.Tags.{taken, take_at, shut_at, tail_at}
use Rattle.tags.specs.declared.Open.TheVariants.{Full}
use Rattle.tags.proofs.tail.Goals as goal

at_once : (s : List ℕ) (a : ℕ) → byte_at s a ≡ 62 → Full a (a + 1) ≡ tail_at s a
unfolding tail_at shut_at walk stepped take_at taken attr_at is_space one_of
at_once s a e =
    let n : is_space (byte_at s a) ≡ false = ap is_space e in
    let p : past is_space s a ≡ a = by-stop (λ j. 1) (λ j. is_space (byte_at s j)) (length s) a n in
    let w : walk_at (take_at s a) s a ≡ Some a = rw (p, e) in
    rw (w, e)

pub returns-then-byte-eq62 : goal.returns-then-byte-eq62
returns-then-byte-eq62 c = at_once c.args.s.now c.args.name_end (sym c.byte.ensures ∙ c.if-byte-eq62.true)
