-- A byte of a run goes on, since no `]]>` begins there; from 128 on a character decides; of the others only `]` may, if no `]>` follows.
use mathlib.Core.List.{[], ◌∷◌}
use native.Mathlib.Omega.{arith}
use mathlib.Core.Path.{sym, ap, ◌∙◌, ◌≡◌}
use mathlib.Core.Bool.{Bool, true, false, not, false≢true}
use Rattle.octets.specs.Bytes.{pick, byte_at, stands}
use Prim.Native.Nat.{◌<◌}
use lib.Dec.{eqb}
use borrow.Author.Tests.{ne_eqb}
use Rattle.pieces.proofs.Inside.{run-goes-on, text-wide, text-ends, at_bracket}
use Rattle.pieces.specs.WorkingClasses.{is_run}
use Rattle.pieces.proofs.in_text.Goals as goal
use Rattle.pieces.proofs.in_text.Goals.{then-b-ne93, else-b-ne93}

-- what is known of the byte that stands there
known : (c : goal.Then-is_run) → let a = c.args in is_run (byte_at a.s.now a.i) ≡ c.is_run.result
known c = ap is_run (sym c.byte-b.ensures) ∙ sym c.is_run.ensures

pub returns-then-is_run : goal.returns-then-is_run
returns-then-is_run c = let a = c.args in run-goes-on a.s.now a.i (known c ∙ c.if-is_run.true)

pub returns-then-b-ge128 : goal.returns-then-b-ge128
returns-then-b-ge128 c =
    let a = c.args in
    c.width_at.ensures ∙ text-wide a.s.now a.i (omega (arith, c.byte-b.ensures, c.if-b-ge128.true))

pub returns-then-stands_at : goal.returns-then-stands_at
returns-then-stands_at c =
    let s = c.args.s.now in
    let i = c.args.i in
    let l : byte_at s i < 128 = omega (arith, c.byte-b.ensures, c.if-b-ge128.false) in
    let k : is_run (byte_at s i) ≡ false = cc in
    elim c.if-b-ne93.branch [
      | then-b-ne93 w ↦ text-ends s i l k (λ e. w.if-b-ne93.true (c.byte-b.ensures ∙ e))
      | else-b-ne93 w ↦
          let t : stands (93 ∷ 93 ∷ 62 ∷ []) s i ≡ true = cc in
          sym (ap (λ (b : Bool). pick b 0 1) t) ∙ at_bracket s i (sym c.byte-b.ensures ∙ w.if-b-ne93.false)
    ]

pub returns-else-stands_at : goal.returns-else-stands_at
returns-else-stands_at c =
    let s = c.args.s.now in
    let i = c.args.i in
    elim c.if-b-ne93.branch [
      | then-b-ne93 w ↦
          let t : not (eqb c.byte-b.result 93) ≡ true = rw (ne_eqb c.byte-b.result 93 w.if-b-ne93.true) in
          absurd (false≢true (sym c.if-stands_at.false ∙ w.value-is ∙ t))
      | else-b-ne93 w ↦
          let t : stands (93 ∷ 93 ∷ 62 ∷ []) s i ≡ false = cc in
          sym (ap (λ (b : Bool). pick b 0 1) t) ∙ at_bracket s i (sym c.byte-b.ensures ∙ w.if-b-ne93.false)
    ]
