-- A quiet byte goes on, since no `--` begins there; from 128 on a character decides; of the others only a dash may, if no second one follows.
use mathlib.Core.List.{[], ◌∷◌}
use native.Mathlib.Omega.{arith}
use mathlib.Core.Path.{sym, ap, ◌∙◌, ◌≡◌}
use mathlib.Core.Bool.{Bool, true, false, not, false≢true}
use Rattle.octets.specs.Bytes.{pick, byte_at, stands}
use Prim.Native.Nat.{◌<◌}
use lib.Dec.{eqb}
use borrow.Author.Tests.{ne_eqb}
use Rattle.pieces.proofs.Inside.{quiet-goes-on, note-wide, note-ends, at-dash}
use Rattle.pieces.specs.WorkingClasses.{is_comment_byte}
use Rattle.pieces.proofs.in_note.Goals as goal
use Rattle.pieces.proofs.in_note.Goals.{then-b-ne45, else-b-ne45}

-- what is known of the byte that stands there
known : (c : goal.Then-is_comment_byte) → let a = c.args in is_comment_byte (byte_at a.s.now a.i) ≡ c.is_comment_byte.result
known c = ap is_comment_byte (sym c.byte-b.ensures) ∙ sym c.is_comment_byte.ensures

pub returns-then-is_comment_byte : goal.returns-then-is_comment_byte
returns-then-is_comment_byte c = let a = c.args in quiet-goes-on a.s.now a.i (known c ∙ c.if-is_comment_byte.true)

pub returns-then-b-ge128 : goal.returns-then-b-ge128
returns-then-b-ge128 c =
    let a = c.args in
    c.width_at.ensures ∙ note-wide a.s.now a.i (omega (arith, c.byte-b.ensures, c.if-b-ge128.true))

pub returns-then-stands_at : goal.returns-then-stands_at
returns-then-stands_at c =
    let s = c.args.s.now in
    let i = c.args.i in
    let l : byte_at s i < 128 = omega (arith, c.byte-b.ensures, c.if-b-ge128.false) in
    let k : is_comment_byte (byte_at s i) ≡ false = cc in
    elim c.if-b-ne45.branch [
      | then-b-ne45 w ↦ note-ends s i l k (λ e. w.if-b-ne45.true (c.byte-b.ensures ∙ e))
      | else-b-ne45 w ↦
          let t : stands (45 ∷ 45 ∷ []) s i ≡ true = cc in
          sym (ap (λ (b : Bool). pick b 0 1) t) ∙ at-dash s i (sym c.byte-b.ensures ∙ w.if-b-ne45.false)
    ]

pub returns-else-stands_at : goal.returns-else-stands_at
returns-else-stands_at c =
    let s = c.args.s.now in
    let i = c.args.i in
    elim c.if-b-ne45.branch [
      | then-b-ne45 w ↦
          let t : not (eqb c.byte-b.result 45) ≡ true = rw (ne_eqb c.byte-b.result 45 w.if-b-ne45.true) in
          absurd (false≢true (sym c.if-stands_at.false ∙ w.value-is ∙ t))
      | else-b-ne45 w ↦
          let t : stands (45 ∷ 45 ∷ []) s i ≡ false = cc in
          sym (ap (λ (b : Bool). pick b 0 1) t) ∙ at-dash s i (sym c.byte-b.ensures ∙ w.if-b-ne45.false)
    ]
