-- `<`, and then the name's answer.
use Prim.Native.Nat.{◌+◌, ◌<◌}
use mathlib.Core.Path.{◌≡◌, sym, ◌∙◌}
use native.Mathlib.Omega.{arith}
use lib.ListN.{length}
use lib.Dec.{lit<}
use borrow.Author.Tests.{eq-eqb, ne_eqb}
use Rattle.octets.specs.Bytes.{byte_at}
use Rattle.pieces.specs.Pieces.{name_at}
use Rattle.std.specs.Prelude.{Some, None}
use Rattle.pieces.proofs.Words.{inside_is}
use Rattle.pieces.proofs.Goes.{name-goes}
use Rattle.tags.specs.Tags.{tailed, open_at}
use Rattle.tags.proofs.open_tag.Goals as goal

pub returns-then-byte-ne60 : goal.returns-then-byte-ne60
unfolding open_at
returns-then-byte-ne60 c =
    let s = c.args.s.now in
    let i = c.args.at in
    let b = byte_at s i in
    let f : c.byte.result ≡ b = cc in
    rw (ne_eqb b 60 (omega arith))

pub overflow_add-at : goal.overflow_add-at
overflow_add-at c =
    let s = c.args.s.now in
    let i = c.args.at in
    let b = byte_at s i in
    let f : c.byte.result ≡ b = cc in
    let h : i < length s = inside_is s i 60 (lit< tt) (omega arith) in
    omega arith

pub tail-requires : goal.tail-requires
tail-requires c =
    let s = c.args.s.now in
    let i = c.args.at in
    let n : name_at s (i + 1) ≡ Some c.in-Some.name_end = sym c.name.ensures ∙ c.in-Some.is in
    (name-goes s (i + 1) c.in-Some.name_end n).in-it

pub returns-in-Some : goal.returns-in-Some
unfolding open_at tailed
returns-in-Some c =
    let s = c.args.s.now in
    let i = c.args.at in
    let b = byte_at s i in
    let f : c.byte.result ≡ b = cc in
    let n : name_at s (i + 1) ≡ Some c.in-Some.name_end = sym c.name.ensures ∙ c.in-Some.is in
    rw (eq-eqb b 60 (omega arith), n) c.tail.ensures

pub returns-in-None : goal.returns-in-None
unfolding open_at tailed
returns-in-None c =
    let s = c.args.s.now in
    let i = c.args.at in
    let b = byte_at s i in
    let f : c.byte.result ≡ b = cc in
    let n : name_at s (i + 1) ≡ None = sym c.name.ensures ∙ c.in-None.is in
    rw (eq-eqb b 60 (omega arith), n)
