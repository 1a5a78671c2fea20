-- One plain name, or two with a colon between; each call's promise is the part of the definition that it answers.
use Prim.Native.Nat.{◌+◌}
use mathlib.Core.Path.{◌≡◌, ap, ◌∙◌}
use native.Mathlib.Omega.{arith}
use borrow.Author.Tests.{eq-eqb, ne_eqb}
use Rattle.octets.specs.Bytes.{byte_at}
use Rattle.pieces.specs.Pieces.{short, plain_at, name_at}
use Rattle.pieces.proofs.Goes.{plain-ge}
use Rattle.pieces.proofs.name.Goals as goal

pub returns-then-a-at : goal.returns-then-a-at
unfolding name_at
returns-then-a-at c =
    let s = c.args.s.now in
    let i = c.args.at in
    let p = plain_at s i in
    let d : c.plain_name-a.result ≡ p = cc in
    rw (eq-eqb p i (omega arith))

pub at_most_64-requires : goal.at_most_64-requires
at_most_64-requires c =
    let s = c.args.s.now in
    let i = c.args.at in
    let p = plain_at s i in
    let d : c.plain_name-a.result ≡ p = cc in
    let g = plain-ge s i in
    omega arith

pub returns-then-byte-ne58 : goal.returns-then-byte-ne58
unfolding name_at
returns-then-byte-ne58 c =
    let s = c.args.s.now in
    let i = c.args.at in
    let p = plain_at s i in
    let d : c.plain_name-a.result ≡ p = cc in
    let f : c.byte.result ≡ byte_at s p = cc in
    rw (ne_eqb p i (omega arith), ne_eqb (byte_at s p) 58 (omega arith)) (c.at_most_64.ensures ∙ ap (short i) d)

pub returns-then-b-a : goal.returns-then-b-a
unfolding name_at
returns-then-b-a c =
    let s = c.args.s.now in
    let i = c.args.at in
    let p = plain_at s i in
    let d : c.plain_name-a.result ≡ p = cc in
    let f : c.byte.result ≡ byte_at s p = cc in
    let r = plain_at s (p + 1) in
    let k : c.plain_name-b.result ≡ r = cc in
    rw (ne_eqb p i (omega arith), eq-eqb (byte_at s p) 58 (omega arith), eq-eqb r (p + 1) (omega arith))

pub at_most_64-requires-else-b-a : goal.at_most_64-requires-else-b-a
at_most_64-requires-else-b-a c =
    let s = c.args.s.now in
    let i = c.args.at in
    let p = plain_at s i in
    let d : c.plain_name-a.result ≡ p = cc in
    let r = plain_at s (p + 1) in
    let k : c.plain_name-b.result ≡ r = cc in
    let g = plain-ge s i in
    let m = plain-ge s (p + 1) in
    omega arith

pub returns-else-b-a : goal.returns-else-b-a
unfolding name_at
returns-else-b-a c =
    let s = c.args.s.now in
    let i = c.args.at in
    let p = plain_at s i in
    let d : c.plain_name-a.result ≡ p = cc in
    let f : c.byte.result ≡ byte_at s p = cc in
    let r = plain_at s (p + 1) in
    let k : c.plain_name-b.result ≡ r = cc in
    rw (ne_eqb p i (omega arith), eq-eqb (byte_at s p) 58 (omega arith), ne_eqb r (p + 1) (omega arith)) (c.at_most_64-else-b-a.ensures ∙ ap (short i) k)
