-- The byte decides: `&` begins a reference, `<` may begin a comment, and anything else is a character or the end.
use Prim.Native.Nat.{ℕ, ◌<◌}
use mathlib.Core.Path.{◌≡◌, sym, ap, ◌∙◌}
use native.Mathlib.Omega.{arith}
use Rattle.std.proofs.Common.{rules}
use lib.Dec.{eqb}
use lib.ListN.{length}
use borrow.Author.Tests.{eq-eqb, ne_eqb}
use Rattle.octets.specs.Bytes.{byte_at}
use Rattle.characters.proofs.Forms.{here}
use Rattle.std.specs.Prelude.{None}
use Rattle.pieces.proofs.Inside.{char-ref}
use Rattle.values.specs.Chars.{met, passed}
use Rattle.values.proofs.Folds.{char-met, tag-next, no_note}
use Rattle.values.proofs.look.Goals as goal

pub returns-then-b-eq38 : goal.returns-then-b-eq38
returns-then-b-eq38 c =
    let a = c.args in
    let e : byte_at a.s.now a.at ≡ 38 = sym c.byte-b.ensures ∙ c.if-b-eq38.true in
    c.next_of.ensures ∙ ap met (c.reference.ensures ∙ char-ref _ _ e) ∙ sym (char-met _ _ (ap (λ (x : ℕ). eqb x 60) e))

pub returns-then-b-ne60 : goal.returns-then-b-ne60
returns-then-b-ne60 c =
    let a = c.args in
    let n = ne_eqb (byte_at a.s.now a.at) 60 (λ e. c.if-b-ne60.true (c.byte-b.ensures ∙ e)) in
    c.next_of-then-b-ne60.ensures ∙ ap met c.character.ensures ∙ sym (char-met _ _ n)

pub overflow_add-at : goal.overflow_add-at
overflow_add-at c =
    let a = c.args in
    let l : a.at < length a.s.now = here a.s.now a.at 60 (omega arith) (sym c.byte-b.ensures ∙ c.if-b-ne60.false) in
    omega (arith, l)

pub returns-then-byte-ne33 : goal.returns-then-byte-ne33
unfolding passed
returns-then-byte-ne33 c = sym (tag-next _ _ (eq-eqb _ 60 (sym c.byte-b.ensures ∙ c.if-b-ne60.false)) None (no_note _ _ (λ e. c.if-byte-ne33.true (c.byte.ensures ∙ e))))

pub returns : goal.returns
unfolding passed
returns c = rw (tag-next _ _ (eq-eqb _ 60 (sym c.byte-b.ensures ∙ c.if-b-ne60.false)) c.note.result (sym c.note.ensures)) (search rules)
