-- By the numbers in their order; the scan finds the first due header, and its aired record is added.
use Rattle.std.proofs.Common.{◌≡◌, Err, sym, ap, ◌∙◌}
use Rattle.std.proofs.lemmas.Result.{err_from_is_err_and}
use native.Mathlib.Omega.{arith}
use Rattle.board.specs.Calls.{Handing}
use Rattle.board.specs.WorkingCalls.{handed_of}
use Rattle.board.proofs.Answers.{best-of-marked, hand-bad, filled_within, filled-most, hand-none, hand-full, hand-given}
use Rattle.board.proofs.air_first.Goals as goal

pub returns-in_err-n : goal.returns-in_err-n
returns-in_err-n c =
    let o = hand-bad c.args.s.now c.in_err-n.ensures.1 in
    let e = err_from_is_err_and _ c.from_residual.ensures.1 in
    let is : c.from_residual.result ≡ Err 1 = e.1 ∙ ap Err (e.2 ∙ c.in_err-n.ensures.0) in
    record { value = ap handed_of is ∙ sym (ap (λ (x : Handing). x.answer) o); s_after = sym (ap (λ (x : Handing). x.bytes) o); number_bound = rw is (omega arith, omega arith) }

pub new-requires : goal.new-requires
new-requires c =
    let ok = c.in_ok-n.ensures.1 in
    (filled_within _ _ c.in_ok-n.ensures.0 ok, filled-most _ _ c.in_ok-n.ensures.0 ok)

pub returns-in_default : goal.returns-in_default
returns-in_default c =
    let m = c.new.ensures in
    let o = hand-none c.args.s.now _ c.in_ok-n.ensures.0 c.in_ok-n.ensures.1 _ (best-of-marked _ _ _ _ _ m.count m.bytes c.in_default.ensures.0) m.count in
    record { value = sym (ap (λ (x : Handing). x.answer) o); s_after = sym (ap (λ (x : Handing). x.bytes) o); number_bound = (omega arith, omega arith) }

pub overflow_add-n : goal.overflow_add-n
overflow_add-n c = omega (arith, filled-most _ _ c.in_ok-n.ensures.0 c.in_ok-n.ensures.1)

pub overflow_mul-n : goal.overflow_mul-n
overflow_mul-n c = omega (arith, filled-most _ _ c.in_ok-n.ensures.0 c.in_ok-n.ensures.1)

pub returns-then-s-n : goal.returns-then-s-n
returns-then-s-n c =
    let m = c.new.ensures in
    let d = c.in-Some.ensures in
    let o = hand-full c.args.s.now _ c.in_ok-n.ensures.0 c.in_ok-n.ensures.1 _ (best-of-marked _ _ _ _ _ m.count m.bytes d.0) (λ e. omega (arith, d.1, m.count, e)) c.if-s-n.true in
    record { value = sym (ap (λ (x : Handing). x.answer) o); s_after = sym (ap (λ (x : Handing). x.bytes) o); number_bound = (omega arith, omega arith) }

pub returns : goal.returns
returns c =
    let m = c.new.ensures in
    let d = c.in-Some.ensures in
    let ok = c.in_ok-n.ensures.1 in
    let o = hand-given c.args.s.now _ c.in_ok-n.ensures.0 ok _ (best-of-marked _ _ _ _ _ m.count m.bytes d.0) _ (λ e. omega (arith, d.1, m.count, e)) c.if-s-n.false c.air.ensures in
    record { value = sym (ap (λ (x : Handing). x.answer) o); s_after = sym (ap (λ (x : Handing). x.bytes) o); number_bound = (omega arith, omega (arith, d.1, m.count, filled-most c.args.s.now _ c.in_ok-n.ensures.0 ok)) }
