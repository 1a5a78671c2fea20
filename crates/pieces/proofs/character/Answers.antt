-- A byte of a run is no `&` and stands for itself, and so does `]`; of the others below 128 only `&` begins a character.
use native.Mathlib.Omega.{arith}
use mathlib.Core.Path.{sym, ap, ◌∙◌, ◌≡◌}
use Prim.Native.Nat.{ℕ, ◌+◌, ◌<◌}
use lib.Dec.{lit<}
use lib.ListN.{length}
use mathlib.Core.Bool.{false}
use Rattle.octets.specs.Bytes.{byte_at}
use Rattle.pieces.specs.WorkingClasses.{is_run}
use Rattle.std.specs.Prelude.{Some}
use Rattle.pieces.proofs.Words.{inside_is}
use Rattle.pieces.proofs.Inside.{run_in, char-run, char-bracket, char-low}
use Rattle.pieces.proofs.character.Goals as goal
use Rattle.pieces.proofs.character.Goals.{then-is_run-via-then-is_run, then-is_run-via-else-is_run+then-b-eq93}

pub overflow_add-result : goal.overflow_add-result
overflow_add-result c =
    let s = c.args.s.now in
    let i = c.args.at in
    let l : i < length s = elim c.then-is_run.branch [
      | then-is_run-via-then-is_run w ↦ run_in s i (cc)
      | then-is_run-via-else-is_run+then-b-eq93 w ↦ inside_is s i 93 (lit< tt) (sym c.byte-b.ensures ∙ w.if-b-eq93.true)
    ] in
    omega arith

pub returns-then-is_run : goal.returns-then-is_run
returns-then-is_run c =
    let s = c.args.s.now in
    let i = c.args.at in
    let r : is_run (byte_at s i) ≡ c.is_run.result = cc in
    elim c.then-is_run.branch [
      | then-is_run-via-then-is_run w ↦ ap (λ (b : ℕ). Some (b, i + 1)) (c.from.ensures ∙ c.byte-b.ensures) ∙ char-run s i (r ∙ w.if-is_run.true)
      | then-is_run-via-else-is_run+then-b-eq93 w ↦
          let e = w.if-b-eq93.true in
          ap (λ (b : ℕ). Some (b, i + 1)) (c.from.ensures ∙ e) ∙ char-bracket s i (sym c.byte-b.ensures ∙ e)
    ]

pub returns-then-b-ne38 : goal.returns-then-b-ne38
returns-then-b-ne38 c =
    let a = c.args in
    let l : byte_at a.s.now a.at < 128 = omega (arith, c.byte-b.ensures, c.if-b-lt128.true) in
    let k : is_run (byte_at a.s.now a.at) ≡ false = cc in
    char-low a.s.now a.at l k (λ e. c.if-b-eq93.false (c.byte-b.ensures ∙ e)) (λ e. c.if-b-ne38.true (c.byte-b.ensures ∙ e))
