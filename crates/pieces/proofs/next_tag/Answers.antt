-- The byte behind `<` decides.
use Rattle.std.proofs.Common.{rules}
use Prim.Native.Nat.{◌+◌}
use mathlib.Core.Path.{◌≡◌}
use native.Mathlib.Omega.{arith}
use borrow.Author.Tests.{eq-eqb, ne_eqb}
use Rattle.octets.specs.Bytes.{byte_at}
use Rattle.pieces.specs.Pieces.{noted, tag_at}
use Rattle.pieces.proofs.next_tag.Goals as goal

pub returns-in-47 : goal.returns-in-47
unfolding tag_at
returns-in-47 c =
    let s = c.args.s.now in
    let i = c.args.at in
    let b = byte_at s (i + 1) in
    let f : c.byte.result ≡ b = cc in
    rw (eq-eqb b 47 (omega arith))

pub returns-in_default : goal.returns-in_default
unfolding tag_at
returns-in_default c =
    let s = c.args.s.now in
    let i = c.args.at in
    let b = byte_at s (i + 1) in
    let f : c.byte.result ≡ b = cc in
    rw (ne_eqb b 47 (omega arith), ne_eqb b 33 (omega arith))

pub returns-in-33 : goal.returns-in-33
unfolding tag_at noted
returns-in-33 c =
    let s = c.args.s.now in
    let i = c.args.at in
    let b = byte_at s (i + 1) in
    let f : c.byte.result ≡ b = cc in
    rw (ne_eqb b 47 (omega arith), eq-eqb b 33 (omega arith)) (search rules)
