-- By the numbers in their order; the rows are those of the scan.
use Rattle.std.proofs.Common.{◌≡◌, length, Err, ap, ◌∙◌}
use Rattle.std.proofs.lemmas.Result.{err_from_is_err_and}
use native.Mathlib.Omega.{arith}
use Rattle.board.proofs.Answers.{filled_within, filled-most, list-bad, list-short, list-given, finds-rows, rows-of-marked}
use Rattle.board.proofs.rows_within.Goals as goal

pub returns-in_err-n : goal.returns-in_err-n
returns-in_err-n c =
    let e = err_from_is_err_and _ c.from_residual.ensures.1 in
    let is : c.from_residual.result ≡ Err 1 = e.1 ∙ ap Err (e.2 ∙ c.in_err-n.ensures.0) in
    record { value = rw is (list-bad _ _ c.in_err-n.ensures.1); number_bound = rw is (omega arith) }

pub new-requires : goal.new-requires
new-requires c =
    let n = c.in_ok-n.ensures in
    (filled_within c.args.s.now _ n.0 n.1, filled-most c.args.s.now _ n.0 n.1)

pub returns-then-room-due : goal.returns-then-room-due
returns-then-room-due c =
    let n = c.in_ok-n.ensures in
    let m = c.new.ensures in
    record { value = list-short _ _ _ _ n.0 n.1 (c.due_rows-due.ensures.count_value ∙ ap length (rows-of-marked _ _ _ _ m.count m.bytes)) c.if-room-due.true; number_bound = omega arith }

pub returns : goal.returns
returns c =
    let n = c.in_ok-n.ensures in
    let d = c.due_rows-due.ensures in
    let m = c.new.ensures in
    let same = rows-of-marked _ _ _ _ m.count m.bytes in
    let o = list-given _ _ _ _ n.0 n.1 (d.count_value ∙ ap length same) c.if-room-due.false in
    record { value = finds-rows _ _ c.due_rows-due.result o d.number_value (d.rows_value ∙ same); number_bound = (omega (arith, d.number_value), d.count_bound) }
