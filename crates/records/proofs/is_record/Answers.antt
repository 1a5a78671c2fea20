-- By its length and its kind.
use mathlib.Core.Path.{sym, ap, ◌∙◌}
use lib.ListN.{length}
use native.Mathlib.Omega.{arith}
use borrow.Author.Tests.{ne_eqb}
use Rattle.std.specs.Result.{result_ok}
use Rattle.octets.proofs.Tests.{one-fails}
use Rattle.clock.proofs.Times.{lent-not, lent-is}
use Rattle.records.proofs.Records.{kind-decides, no_kind}
use Rattle.records.specs.Record.{record_tests, record_ok}
use Rattle.records.proofs.is_record.Goals as goal

pub returns-in-1 : goal.returns-in-1
returns-in-1 c =
    let whole = lent-is c.try_from.result (λ y. y.now) c.args.r.now c.in-Ok.r 384 c.try_from.ensures.1 (sym (ap result_ok c.in-Ok.is)) in
    c.is_notice.ensures ∙ sym (kind-decides c.in-Ok.r.now 1 (ap length whole.1 ∙ whole.0) c.in-1.is) ∙ ap record_ok whole.1

pub returns-in-2 : goal.returns-in-2
returns-in-2 c =
    let whole = lent-is c.try_from.result (λ y. y.now) c.args.r.now c.in-Ok.r 384 c.try_from.ensures.1 (sym (ap result_ok c.in-Ok.is)) in
    c.is_withdrawal.ensures ∙ sym (kind-decides c.in-Ok.r.now 2 (ap length whole.1 ∙ whole.0) c.in-2.is) ∙ ap record_ok whole.1

pub returns-in-3 : goal.returns-in-3
returns-in-3 c =
    let whole = lent-is c.try_from.result (λ y. y.now) c.args.r.now c.in-Ok.r 384 c.try_from.ensures.1 (sym (ap result_ok c.in-Ok.is)) in
    c.is_aired.ensures ∙ sym (kind-decides c.in-Ok.r.now 3 (ap length whole.1 ∙ whole.0) c.in-3.is) ∙ ap record_ok whole.1

pub returns-in_default : goal.returns-in_default
unfolding record_ok
returns-in_default c =
    let h = lent-not c.try_from.result (λ y. y.now) c.args.r.now 384 c.try_from.ensures.1 (sym (ap result_ok c.in_default.is)) in
    sym (one-fails 0 (record_tests c.args.r.now) (ne_eqb _ 384 h))

pub returns-in_default-r : goal.returns-in_default-r
returns-in_default-r c =
    let whole = lent-is c.try_from.result (λ y. y.now) c.args.r.now c.in-Ok.r 384 c.try_from.ensures.1 (sym (ap result_ok c.in-Ok.is)) in
    sym (no_kind c.in-Ok.r.now (λ e. omega arith) (λ e. omega arith) (λ e. omega arith)) ∙ ap record_ok whole.1
