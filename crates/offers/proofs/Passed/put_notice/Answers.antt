-- None where it is quiet, else one.
use mathlib.Core.Path.{ap, ◌∙◌}
use native.Mathlib.Omega.{arith}
use lib.ListN.{length}
use Rattle.records.proofs.Records.{record-long}
use Rattle.offers.proofs.Taken.{ready}
use Rattle.offers.proofs.Putting.{put-none, put_one_lem}
use Rattle.offers.proofs.Passed.put_notice.Goals as goal

pub returns-then-self : goal.returns-then-self
returns-then-self c = let both = put-none _ _ _ c.if-self.true in record { value = both.0; batch_after = both.1 }

pub put_bytes-requires : goal.put_bytes-requires
put_bytes-requires c = let r = ready _ _ c.args.self.now.own c.args.self.now.zero in omega (arith, ap length c.notice.ensures ∙ record-long _ (r.notice c.if-self.false))

pub returns : goal.returns
returns c = let both = put_one_lem _ _ _ _ _ c.if-self.false c.notice.ensures c.put_bytes.ensures in record { value = both.0; batch_after = both.1 }
