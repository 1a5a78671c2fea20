-- By the numbers in their order; the count says whether all fit, and then they are added.
use Rattle.std.proofs.Common.{◌≡◌, Err, sym, ap, ◌∙◌}
use Rattle.std.proofs.lemmas.Result.{err_from_is_err_and}
use native.Mathlib.Omega.{arith}
use Rattle.slots.specs.Slots.{recs}
use Rattle.board.specs.WorkingCalls.{Offering, added_of}
use Rattle.board.proofs.Answers.{offer-bad, filled-sorted, filled_within, filled-most, offer-full, offer-taken, offer-most}
use Rattle.board.proofs.add_records.Goals as goal

pub returns-in_err-n : goal.returns-in_err-n
returns-in_err-n c =
    let o = offer-bad c.args.s.now _ c.in_err-n.ensures.1 in
    let e = err_from_is_err_and _ c.from_residual.ensures.1 in
    let is : c.from_residual.result ≡ Err 1 = e.1 ∙ ap Err (e.2 ∙ c.in_err-n.ensures.0) in
    record { value = ap added_of is ∙ sym (ap (λ (x : Offering). x.answer) o); s_after = sym (ap (λ (x : Offering). x.bytes) o); number_bound = rw is (omega arith, omega arith) }

pub tally-k-requires : goal.tally-k-requires
tally-k-requires c =
    let n = c.in_ok-n.ensures in
    (filled_within c.args.s.now _ n.0 n.1, c.requires, filled-sorted c.args.s.now (recs c.args.m c.args.batch.now) _ n.0 n.1)

pub overflow_add-n : goal.overflow_add-n
overflow_add-n c =
    let n = c.in_ok-n.ensures in
    omega (arith, filled-most c.args.s.now _ n.0 n.1, c.tally-k.ensures.upper_bound, c.requires, c.well_formed)

pub overflow_mul-n : goal.overflow_mul-n
overflow_mul-n c =
    let n = c.in_ok-n.ensures in
    omega (arith, filled-most c.args.s.now _ n.0 n.1, c.tally-k.ensures.upper_bound, c.requires, c.well_formed)

pub returns-then-s-n : goal.returns-then-s-n
returns-then-s-n c =
    let n = c.in_ok-n.ensures in
    let o = offer-full c.args.s.now _ _ n.0 n.1 _ c.tally-k.ensures.n_value c.if-s-n.true in
    record { value = sym (ap (λ (x : Offering). x.answer) o); s_after = sym (ap (λ (x : Offering). x.bytes) o); number_bound = (omega arith, omega arith) }

pub returns : goal.returns
returns c =
    let n = c.in_ok-n.ensures in
    let o = offer-taken c.args.s.now _ _ n.0 n.1 _ _ _ c.tally-k.ensures.n_value c.if-s-n.false c.add_all.ensures.value c.add_all.ensures.s_after in
    record { value = sym (ap (λ (x : Offering). x.answer) o); s_after = sym (ap (λ (x : Offering). x.bytes) o); number_bound = (omega arith, offer-most c.args.s.now _ n.1 _ c.if-s-n.false) }
