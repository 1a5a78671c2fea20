-- The batch holds the records of the message.
use native.Mathlib.Omega.{arith}
use Rattle.offers.proofs.Offering.{batch-long, offer-given}
use Rattle.offers.proofs.offer_records.Goals as goal

pub offer_records-offered-requires : goal.offer_records-offered-requires
offer_records-offered-requires c =
    batch-long _ _ c.args.passed.now.own c.args.passed.now.zero _ _ (c.put_records-n.ensures.value, c.put_records-n.ensures.batch_after)

pub returns : goal.returns
returns c =
    let g = offer-given _ _ c.args.passed.now.own c.args.passed.now.zero _ _ (c.put_records-n.ensures.value, c.put_records-n.ensures.batch_after) c.args.s.now c.offer_records-offered.new.s _ c.offer_records-offered.ensures.value c.offer_records-offered.ensures.s_after in
    record { value = g.0; s_after = g.1; number_bound = (c.offer_records-offered.ensures.number_bound.0, omega arith, c.offer_records-offered.ensures.number_bound.1) }
