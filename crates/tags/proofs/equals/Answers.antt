-- The place of `=`, then of the value, each behind white space.
use Prim.Native.Nat.{ℕ, ◌+◌, ◌<◌}
use mathlib.Core.Path.{◌≡◌, sym, ap, ◌∙◌}
use native.Mathlib.Omega.{arith}
use lib.ListN.{length}
use lib.Dec.{lit<}
use borrow.Author.Tests.{eq-eqb, ne_eqb}
use Rattle.octets.specs.Bytes.{byte_at, is_space}
use Rattle.octets.specs.Scan.{past}
use Rattle.std.specs.Prelude.{Some, None}
use Rattle.pieces.proofs.Words.{inside_is}
use Rattle.tags.specs.Attributes.{quoted_at, attribute_of, equalled}
use Rattle.tags.specs.declared.Attr.TheVariants.{Of}
use Rattle.tags.proofs.equals.Goals as goal

pub returns-then-byte-ne61 : goal.returns-then-byte-ne61
unfolding equalled
returns-then-byte-ne61 c =
    let s = c.args.s.now in
    let j = c.args.name in
    let e = c.args.name_end in
    let q = past is_space s e in
    let g : c.spaces-q.result ≡ q = c.spaces-q.ensures in
    let f : c.byte.result ≡ byte_at s q = cc in
    rw (ne_eqb (byte_at s q) 61 (omega arith))

pub overflow_add-q : goal.overflow_add-q
overflow_add-q c =
    let s = c.args.s.now in
    let j = c.args.name in
    let e = c.args.name_end in
    let q = past is_space s e in
    let g : c.spaces-q.result ≡ q = c.spaces-q.ensures in
    let f : c.byte.result ≡ byte_at s q = cc in
    let h : q < length s = inside_is s q 61 (lit< tt) (omega arith) in
    omega arith

pub returns-in-Some : goal.returns-in-Some
unfolding equalled attribute_of
returns-in-Some c =
    let s = c.args.s.now in
    let j = c.args.name in
    let e = c.args.name_end in
    let q = past is_space s e in
    let g : c.spaces-q.result ≡ q = c.spaces-q.ensures in
    let f : c.byte.result ≡ byte_at s q = cc in
    let v = past is_space s (q + 1) in
    let m : c.spaces-v.result ≡ v = cc in
    let w : quoted_at s v ≡ Some c.in-Some.end = ap (quoted_at s) (sym m) ∙ sym c.value.ensures ∙ c.in-Some.is in
    rw (eq-eqb (byte_at s q) 61 (omega arith), w) (ap (λ (x : ℕ). Of j e x c.in-Some.end) m)

pub returns-in-None : goal.returns-in-None
unfolding equalled attribute_of
returns-in-None c =
    let s = c.args.s.now in
    let j = c.args.name in
    let e = c.args.name_end in
    let q = past is_space s e in
    let g : c.spaces-q.result ≡ q = c.spaces-q.ensures in
    let f : c.byte.result ≡ byte_at s q = cc in
    let v = past is_space s (q + 1) in
    let m : c.spaces-v.result ≡ v = cc in
    let w : quoted_at s v ≡ None = ap (quoted_at s) (sym m) ∙ sym c.value.ensures ∙ c.in-None.is in
    rw (eq-eqb (byte_at s q) 61 (omega arith), w)
