-- A character that stands is plain and no reference, since it is from 128 on.
use native.Mathlib.Omega.{arith}
use mathlib.Core.Path.{sym, ap, ◌∙◌}
use Prim.Native.Nat.{◌<◌}
use Rattle.characters.specs.Utf8.{width, scalar_at}
use Rattle.characters.proofs.Forms.{scalar-in}
use Rattle.pieces.proofs.Inside.{char-none, char-wide}
use Rattle.pieces.proofs.wide.Goals as goal

some : (c : goal.After-bytes_of) → let a = c.args in 0 < scalar_at a.s.now a.at
some c = omega (arith, c.scalar-c.ensures, c.if-c-eq0.false)

pub returns-then-c-eq0 : goal.returns-then-c-eq0
returns-then-c-eq0 c = char-none c.args.s.now c.args.at (sym c.scalar-c.ensures ∙ c.if-c-eq0.true)

pub overflow_add-result : goal.overflow_add-result
overflow_add-result c = let a = c.args in omega (arith, c.bytes_of.ensures ∙ ap width c.scalar-c.ensures, scalar-in a.s.now a.at (some c))

pub returns-else-c-eq0 : goal.returns-else-c-eq0
returns-else-c-eq0 c =
    let a = c.args in
    rw (c.bytes_of.ensures, c.scalar-c.ensures) (char-wide a.s.now a.at c.requires (some c))
