-- The first byte decides, and then the callee's answer.
use Rattle.std.proofs.Common.{rules}
use Prim.Native.Nat.{◌<◌}
use mathlib.Core.Path.{◌≡◌, ap}
use native.Mathlib.Omega.{arith}
use lib.Dec.{lit<}
use lib.ListN.{length}
use borrow.Author.Tests.{eq-eqb, ne_eqb}
use Rattle.octets.specs.Bytes.{byte_at}
use Rattle.characters.specs.Utf8.{through}
use Rattle.pieces.proofs.Words.{inside_is}
use Rattle.pieces.specs.Pieces.{in_text, referred, piece_at}
use Rattle.pieces.specs.declared.Piece.TheVariants.{Text}
use Rattle.pieces.proofs.next_piece.Goals as goal

pub next_tag-requires : goal.next_tag-requires
next_tag-requires c =
    let s = c.args.s.now in
    let i = c.args.at in
    let b = byte_at s i in
    let f : c.byte.result ≡ b = cc in
    let h : i < length s = inside_is s i 60 (lit< tt) (omega arith) in
    omega arith

pub returns-in-60 : goal.returns-in-60
unfolding piece_at
returns-in-60 c =
    let s = c.args.s.now in
    let i = c.args.at in
    let b = byte_at s i in
    let f : c.byte.result ≡ b = cc in
    rw (eq-eqb b 60 (omega arith)) c.next_tag.ensures

pub returns-in-38 : goal.returns-in-38
unfolding piece_at referred
returns-in-38 c =
    let s = c.args.s.now in
    let i = c.args.at in
    let b = byte_at s i in
    let f : c.byte.result ≡ b = cc in
    rw (ne_eqb b 60 (omega arith), eq-eqb b 38 (omega arith)) (search rules)

pub returns-then-e-at : goal.returns-then-e-at
unfolding piece_at
returns-then-e-at c =
    let s = c.args.s.now in
    let i = c.args.at in
    let b = byte_at s i in
    let f : c.byte.result ≡ b = cc in
    let e = through (in_text s) s i in
    let g : c.run-e.result ≡ e = c.run-e.ensures in
    rw (ne_eqb b 60 (omega arith), ne_eqb b 38 (omega arith), eq-eqb e i (omega arith))

pub returns-else-e-at : goal.returns-else-e-at
unfolding piece_at
returns-else-e-at c =
    let s = c.args.s.now in
    let i = c.args.at in
    let b = byte_at s i in
    let f : c.byte.result ≡ b = cc in
    let e = through (in_text s) s i in
    let g : c.run-e.result ≡ e = c.run-e.ensures in
    rw (ne_eqb b 60 (omega arith), ne_eqb b 38 (omega arith), ne_eqb e i (omega arith)) (ap Text g)
