-- White space, `<!--`, or neither; then the comment's answer.
use Prim.Native.Nat.{◌<◌}
use mathlib.Core.Path.{◌≡◌, sym, ◌∙◌}
use mathlib.Core.Bool.{true, false}
use mathlib.Core.List.{[], ◌∷◌}
use native.Mathlib.Omega.{arith}
use lib.ListN.{length}
use Rattle.octets.specs.Bytes.{byte_at, stands, is_space}
use Rattle.octets.specs.Text.{bytes}
use Rattle.pieces.specs.Pieces.{note_at}
use Rattle.std.specs.Prelude.{Some, None}
use Rattle.pieces.proofs.Inside.{space-in}
use Rattle.markup.specs.Document.{go_on, misc_step}
use Rattle.markup.proofs.misc_step.Goals as goal

pub overflow_add-result : goal.overflow_add-result
overflow_add-result c =
    let s = c.args.s.now in
    let i = c.args.i in
    let b : is_space (byte_at s i) ≡ true = cc in
    let h : i < length s = space-in s i b in
    omega arith

pub returns-then-is_space : goal.returns-then-is_space
unfolding misc_step
returns-then-is_space c =
    let s = c.args.s.now in
    let i = c.args.i in
    let b : is_space (byte_at s i) ≡ true = cc in
    rw b

pub returns-then-not-stands_at : goal.returns-then-not-stands_at
unfolding misc_step bytes
returns-then-not-stands_at c =
    let s = c.args.s.now in
    let i = c.args.i in
    let b : is_space (byte_at s i) ≡ false = cc in
    let y : stands (60 ∷ 33 ∷ 45 ∷ 45 ∷ []) s i ≡ false = sym c.stands_at.ensures ∙ c.if-not-stands_at.true in
    rw (b, y)

pub returns-in-Some : goal.returns-in-Some
unfolding misc_step go_on bytes
returns-in-Some c =
    let s = c.args.s.now in
    let i = c.args.i in
    let b : is_space (byte_at s i) ≡ false = cc in
    let y : stands (60 ∷ 33 ∷ 45 ∷ 45 ∷ []) s i ≡ true = sym c.stands_at.ensures ∙ c.if-not-stands_at.false in
    let n : note_at s i ≡ Some c.in-Some.j = sym c.note.ensures ∙ c.in-Some.is in
    rw (b, y, n)

pub returns-in-None : goal.returns-in-None
unfolding misc_step go_on bytes
returns-in-None c =
    let s = c.args.s.now in
    let i = c.args.i in
    let b : is_space (byte_at s i) ≡ false = cc in
    let y : stands (60 ∷ 33 ∷ 45 ∷ 45 ∷ []) s i ≡ true = sym c.stands_at.ensures ∙ c.if-not-stands_at.false in
    let n : note_at s i ≡ None = sym c.note.ensures ∙ c.in-None.is in
    rw (b, y, n)
