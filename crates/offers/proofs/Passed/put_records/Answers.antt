-- The notice first, then the withdrawals behind it.
use mathlib.Core.Path.{◌≡◌}
use mathlib.Core.Bool.{true, false}
use native.Mathlib.Omega.{arith}
use Rattle.judgement.specs.WorkingRules.{asks_references}
use Rattle.offers.proofs.Taken.{ready}
use Rattle.offers.proofs.Putting.{put_alone, put_both}
use Rattle.offers.proofs.Passed.put_records.Goals as goal

pub returns-then-not-asks_references : goal.returns-then-not-asks_references
returns-then-not-asks_references c =
    let lacks : asks_references c.args.self.now.judged.message.msg_type ≡ false = cc in
    let both = put_alone _ _ _ _ _ c.put_notice-n.ensures.value c.put_notice-n.ensures.batch_after lacks in
    record { value = both.0; batch_after = both.1 }

pub put_withdrawals-requires : goal.put_withdrawals-requires
put_withdrawals-requires c =
    let r = ready _ _ c.args.self.now.own c.args.self.now.zero in
    let has : asks_references c.args.self.now.judged.message.msg_type ≡ true = cc in
    record { at_value = r.references has; n_bound = omega (arith, c.put_notice-n.ensures.value, r.one) }

pub returns : goal.returns
returns c =
    let has : asks_references c.args.self.now.judged.message.msg_type ≡ true = cc in
    let both = put_both _ _ _ _ _ c.put_notice-n.ensures.value c.put_notice-n.ensures.batch_after (ready _ _ c.args.self.now.own c.args.self.now.zero) _ _ has c.put_withdrawals.ensures.value c.put_withdrawals.ensures.batch_after in record { value = both.0; batch_after = both.1 }
