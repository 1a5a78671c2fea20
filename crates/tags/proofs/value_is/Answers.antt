use Rattle.std.proofs.Common.{rules, ◌≡◌, sym, ◌∙◌, length, arith}
use borrow.Author.Tests.{eq-eqb, ne_eqb}
use Rattle.octets.specs.Bytes.{byte_at, same}
use Rattle.std.specs.Prelude.{None, is_none}
use Rattle.pieces.specs.Pieces.{char_at}
use Rattle.tags.specs.Attributes.{decoded_at}
use Rattle.tags.proofs.Decoding.{Read, decoding-starts, decoding-ends, decoding-wrong, decoding-not, decoding-more, decoding-last}
use Rattle.tags.proofs.value_is.Goals as goal

pub loop-x-init : goal.loop-x-init
loop-x-init c = decoding-starts c.args.s.now c.args.w.now c.args.at c.byte-q.result c.byte-q.ensures

pub returns-then-byte-q : goal.returns-then-byte-q
returns-then-byte-q c =
    let s = c.args.s.now in
    let w = c.args.w.now in
    let i = c.loop-x.i in
    let k = c.loop-x.x-index in
    let e : byte_at s i ≡ c.byte-q.result = sym c.byte.ensures ∙ c.if-byte-q.true in
    sym (ne_eqb k (length w) (omega arith)) ∙ decoding-ends s w c.byte-q.result (same (decoded_at s c.args.at) w) i k c.loop-x.invariant e

pub returns-in_default : goal.returns-in_default
returns-in_default c =
    let s = c.args.s.now in
    let w = c.args.w.now in
    let i = c.loop-x.i in
    let k = c.loop-x.x-index in
    let e : char_at s i ≡ None = sym c.character.ensures ∙ c.in_default.is in
    sym (ne_eqb k (length w) (omega arith)) ∙ decoding-wrong s w c.byte-q.result (same (decoded_at s c.args.at) w) i k c.loop-x.invariant (λ h. c.if-byte-q.false (c.byte.ensures ∙ h)) e

pub returns-then-c-from : goal.returns-then-c-from
returns-then-c-from c =
    let s = c.args.s.now in
    let w = c.args.w.now in
    let r : Read s w c.byte-q.result (same (decoded_at s c.args.at) w) c.loop-x.i c.loop-x.x-index c.in-Some.c c.in-Some.j =
    record { so_far = c.loop-x.invariant; no_end = λ h. c.if-byte-q.false (c.byte.ensures ∙ h); is = sym c.character.ensures ∙ c.in-Some.is } in
    decoding-not r (omega arith) (λ h. c.if-c-from.true (h ∙ sym c.from.ensures))

pub loop-x-preserved : goal.loop-x-preserved
loop-x-preserved c =
    let s = c.args.s.now in
    let w = c.args.w.now in
    let r : Read s w c.byte-q.result (same (decoded_at s c.args.at) w) c.loop-x.i c.loop-x.x-index c.in-Some.c c.in-Some.j =
    record { so_far = c.loop-x.invariant; no_end = λ h. c.if-byte-q.false (c.byte.ensures ∙ h); is = sym c.character.ensures ∙ c.in-Some.is } in
    decoding-more r (omega arith) (c.if-c-from.false ∙ c.from.ensures)

pub returns-then-byte-q-2 : goal.returns-then-byte-q-2
returns-then-byte-q-2 c =
    let s = c.args.s.now in
    let w = c.args.w.now in
    let i = c.loop-x.i in
    let k = c.loop-x.x-index in
    let e : byte_at s i ≡ c.byte-q.result = sym c.byte-2.ensures ∙ c.if-byte-q-2.true in
    eq-eqb _ _ c.if-byte-q-2.true ∙ sym (eq-eqb k (length w) (omega (arith, c.loop-x.invariant.within))) ∙ decoding-ends s w c.byte-q.result (same (decoded_at s c.args.at) w) i k c.loop-x.invariant e

pub returns-else-byte-q-2 : goal.returns-else-byte-q-2
returns-else-byte-q-2 c =
    let s = c.args.s.now in
    let w = c.args.w.now in
    let e : c.is_none.result ≡ is_none (char_at s c.loop-x.i) = search rules in
    e ∙ decoding-last s w c.byte-q.result (same (decoded_at s c.args.at) w) c.loop-x.i c.loop-x.x-index c.loop-x.invariant (λ h. c.if-byte-q-2.false (c.byte-2.ensures ∙ h)) (omega arith)
