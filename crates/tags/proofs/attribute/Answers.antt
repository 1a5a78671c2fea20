-- The byte behind the white space decides, and then the name's answer.
use Prim.Native.Nat.{ℕ}
use mathlib.Core.Path.{◌≡◌, sym, ap, ◌∙◌}
use native.Mathlib.Omega.{arith}
use borrow.Author.Tests.{eq-eqb, ne_eqb}
use Rattle.octets.specs.Bytes.{byte_at, is_space}
use Rattle.octets.specs.Scan.{past}
use Rattle.pieces.specs.Pieces.{name_at}
use Rattle.std.specs.Prelude.{Some, None}
use Rattle.tags.specs.Attributes.{equalled, attr_at}
use Rattle.tags.specs.declared.Attr.TheVariants.{Last}
use Rattle.tags.proofs.attribute.Goals as goal
use Rattle.tags.proofs.attribute.Goals.{then-b-eq62-via-then-b-eq62, then-b-eq62-via-else-b-eq62+then-b-eq47}

pub returns-then-b-eq62 : goal.returns-then-b-eq62
unfolding attr_at
returns-then-b-eq62 c =
    let s = c.args.s.now in
    let i = c.args.at in
    let j = past is_space s i in
    let g : c.spaces-j.result ≡ j = c.spaces-j.ensures in
    let b = byte_at s j in
    let f : c.byte-b.result ≡ b = cc in
    elim c.then-b-eq62.branch [
      | then-b-eq62-via-then-b-eq62 w ↦ rw (eq-eqb b 62 (omega (arith, w.if-b-eq62.true))) (ap Last g)
      | then-b-eq62-via-else-b-eq62+then-b-eq47 w ↦ rw (ne_eqb b 62 (omega (arith, w.if-b-eq62.false)), eq-eqb b 47 (omega (arith, w.if-b-eq47.true))) (ap Last g)
    ]

pub returns-then-j-at : goal.returns-then-j-at
unfolding attr_at
returns-then-j-at c =
    let s = c.args.s.now in
    let i = c.args.at in
    let j = past is_space s i in
    let g : c.spaces-j.result ≡ j = c.spaces-j.ensures in
    let b = byte_at s j in
    let f : c.byte-b.result ≡ b = cc in
    rw (ne_eqb b 62 (omega arith), ne_eqb b 47 (omega arith), eq-eqb j i (omega arith))

pub returns-in-Some : goal.returns-in-Some
unfolding attr_at
returns-in-Some c =
    let s = c.args.s.now in
    let i = c.args.at in
    let j = past is_space s i in
    let g : c.spaces-j.result ≡ j = c.spaces-j.ensures in
    let b = byte_at s j in
    let f : c.byte-b.result ≡ b = cc in
    let w : name_at s j ≡ Some c.in-Some.e = ap (name_at s) (sym g) ∙ sym c.name.ensures ∙ c.in-Some.is in
    rw (ne_eqb b 62 (omega arith), ne_eqb b 47 (omega arith), ne_eqb j i (omega arith), w) (c.equals.ensures ∙ ap (λ (x : ℕ). equalled s x (Some c.in-Some.e)) g)

pub returns-in-None : goal.returns-in-None
unfolding attr_at equalled
returns-in-None c =
    let s = c.args.s.now in
    let i = c.args.at in
    let j = past is_space s i in
    let g : c.spaces-j.result ≡ j = c.spaces-j.ensures in
    let b = byte_at s j in
    let f : c.byte-b.result ≡ b = cc in
    let w : name_at s j ≡ None = ap (name_at s) (sym g) ∙ sym c.name.ensures ∙ c.in-None.is in
    rw (ne_eqb b 62 (omega arith), ne_eqb b 47 (omega arith), ne_eqb j i (omega arith), w)
