-- At the quote the value ends; before it a byte of a run is a character, and else the character's answer decides.
use Prim.Native.Nat.{◌<◌}
use mathlib.Core.Path.{◌≡◌, sym, ap, ◌∙◌}
use mathlib.Core.Bool.{true}
use native.Mathlib.Omega.{arith}
use lib.ListN.{length}
use borrow.Author.Tests.{eq-eqb, ne_eqb}
use Rattle.octets.specs.Bytes.{byte_at}
use Rattle.pieces.specs.Pieces.{char_at}
use Rattle.pieces.specs.WorkingClasses.{is_run}
use Rattle.std.specs.Prelude.{Some, None}
use Rattle.pieces.proofs.Words.{inside_is}
use Rattle.pieces.proofs.Inside.{run_in, char-run}
use Rattle.tags.specs.Attributes.{over, bit_at}
use Rattle.tags.proofs.bit.Goals as goal

-- a byte of a run
ran : (c : goal.Then-is_run) → let a = c.args in is_run (byte_at a.s.now a.i) ≡ true
ran c = ap is_run (sym c.byte-b.ensures) ∙ sym c.is_run.ensures ∙ c.if-is_run.true

-- behind the test of the quote
on : (c : goal.Then-is_run) → let a = c.args in byte_at a.s.now a.i ≡ a.q → ⊥
on c e = c.if-b-q.false (c.byte-b.ensures ∙ e)

pub overflow_add-result : goal.overflow_add-result
overflow_add-result c =
    let s = c.args.s.now in
    let i = c.args.i in
    let f : byte_at s i ≡ c.args.q = sym c.byte-b.ensures ∙ c.if-b-q.true in
    let h : i < length s = inside_is s i c.args.q c.requires f in
    omega arith

pub returns-then-b-q : goal.returns-then-b-q
unfolding bit_at
returns-then-b-q c =
    let s = c.args.s.now in
    let i = c.args.i in
    let f : byte_at s i ≡ c.args.q = sym c.byte-b.ensures ∙ c.if-b-q.true in
    rw (eq-eqb (byte_at s i) c.args.q f)

pub overflow_add-result-then-is_run : goal.overflow_add-result-then-is_run
overflow_add-result-then-is_run c = let a = c.args in let l = run_in a.s.now a.i (ran c) in omega arith

pub returns-then-is_run : goal.returns-then-is_run
unfolding bit_at over
returns-then-is_run c =
    let a = c.args in
    rw (ne_eqb (byte_at a.s.now a.i) a.q (on c), sym (char-run a.s.now a.i (ran c)))

pub returns-in-Some : goal.returns-in-Some
unfolding bit_at over
returns-in-Some c =
    let s = c.args.s.now in
    let i = c.args.i in
    let w : char_at s i ≡ Some (c.in-Some.field-0-0, c.in-Some.j) = sym c.character.ensures ∙ c.in-Some.is in
    rw (ne_eqb (byte_at s i) c.args.q (λ e. c.if-b-q.false (c.byte-b.ensures ∙ e)), w)

pub returns-in-None : goal.returns-in-None
unfolding bit_at over
returns-in-None c =
    let s = c.args.s.now in
    let i = c.args.i in
    let w : char_at s i ≡ None = sym c.character.ensures ∙ c.in-None.is in
    rw (ne_eqb (byte_at s i) c.args.q (λ e. c.if-b-q.false (c.byte-b.ensures ∙ e)), w)
