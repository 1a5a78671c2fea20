-- What stands behind the attributes decides.
use Prim.Native.Nat.{◌+◌, ◌<◌, ◌≤◌}
use mathlib.Core.Path.{◌≡◌, sym, ◌∙◌}
use mathlib.Core.Bool.{true, false}
use mathlib.Core.List.{[], ◌∷◌}
use native.Mathlib.Omega.{arith}
use lib.ListN.{length}
use lib.Dec.{lit<}
use borrow.Author.Tests.{eq-eqb, ne_eqb}
use Rattle.octets.specs.Bytes.{byte_at, stands}
use Rattle.octets.specs.Text.{bytes}
use Rattle.octets.proofs.Sames.{stands-in}
use Rattle.pieces.specs.Walk.{walk_at}
use Rattle.std.specs.Prelude.{Some, None}
use Rattle.pieces.proofs.Words.{inside_is}
use Rattle.tags.specs.Tags.{take_at, shut_at, tail_at}
use Rattle.tags.proofs.whole_tail.Goals as goal

pub overflow_add-result : goal.overflow_add-result
overflow_add-result c =
    let s = c.args.s.now in
    let a = c.args.name_end in
    let w : walk_at (take_at s a) s a ≡ Some c.in-Some.j = sym c.attributes.ensures ∙ c.in-Some.is in
    let f : c.byte.result ≡ byte_at s c.in-Some.j = cc in
    let h : c.in-Some.j < length s = inside_is s c.in-Some.j 62 (lit< tt) (omega arith) in
    omega arith

pub returns-then-byte-eq62 : goal.returns-then-byte-eq62
unfolding tail_at shut_at
returns-then-byte-eq62 c =
    let s = c.args.s.now in
    let a = c.args.name_end in
    let w : walk_at (take_at s a) s a ≡ Some c.in-Some.j = sym c.attributes.ensures ∙ c.in-Some.is in
    let f : c.byte.result ≡ byte_at s c.in-Some.j = cc in
    rw (w, eq-eqb (byte_at s c.in-Some.j) 62 (omega arith))

pub overflow_add-result-then-stands_at : goal.overflow_add-result-then-stands_at
overflow_add-result-then-stands_at c =
    let s = c.args.s.now in
    let a = c.args.name_end in
    let w : walk_at (take_at s a) s a ≡ Some c.in-Some.j = sym c.attributes.ensures ∙ c.in-Some.is in
    let f : c.byte.result ≡ byte_at s c.in-Some.j = cc in
    let y : stands (47 ∷ 62 ∷ []) s c.in-Some.j ≡ true = sym c.stands_at.ensures ∙ c.if-stands_at.true in
    let h : c.in-Some.j + 2 ≤ length s = stands-in (47 ∷ 62 ∷ []) s c.in-Some.j y (lit< tt) in
    omega arith

pub returns-then-stands_at : goal.returns-then-stands_at
unfolding tail_at shut_at bytes
returns-then-stands_at c =
    let s = c.args.s.now in
    let a = c.args.name_end in
    let w : walk_at (take_at s a) s a ≡ Some c.in-Some.j = sym c.attributes.ensures ∙ c.in-Some.is in
    let f : c.byte.result ≡ byte_at s c.in-Some.j = cc in
    let y : stands (47 ∷ 62 ∷ []) s c.in-Some.j ≡ true = sym c.stands_at.ensures ∙ c.if-stands_at.true in
    rw (w, ne_eqb (byte_at s c.in-Some.j) 62 (omega arith), y)

pub returns-else-stands_at : goal.returns-else-stands_at
unfolding tail_at shut_at bytes
returns-else-stands_at c =
    let s = c.args.s.now in
    let a = c.args.name_end in
    let w : walk_at (take_at s a) s a ≡ Some c.in-Some.j = sym c.attributes.ensures ∙ c.in-Some.is in
    let f : c.byte.result ≡ byte_at s c.in-Some.j = cc in
    let y : stands (47 ∷ 62 ∷ []) s c.in-Some.j ≡ false = sym c.stands_at.ensures ∙ c.if-stands_at.false in
    rw (w, ne_eqb (byte_at s c.in-Some.j) 62 (omega arith), y)

pub returns-in_default : goal.returns-in_default
unfolding tail_at shut_at
returns-in_default c =
    let s = c.args.s.now in
    let a = c.args.name_end in
    let w : walk_at (take_at s a) s a ≡ None = sym c.attributes.ensures ∙ c.in_default.is in
    rw w
