-- An identity's front is all of it, the header is laid into zeros, and the maker puts them in their places.
use native.Mathlib.Omega.{arith}
use Rattle.offers.proofs.Taken.{ready}
use Rattle.offers.proofs.Putting.{identity-fits, notice-laid}
use Rattle.offers.specs.WorkingRecords.{own_in, zero_filled_header}
use Rattle.offers.proofs.Passed.notice.Goals as goal

pub put_body-requires : goal.put_body-requires
put_body-requires c =
    let n = (ready _ _ c.args.self.now.own c.args.self.now.zero).places c.requires in
    record { count_bound = n; count_in_bounds = omega arith }

pub notice-requires : goal.notice-requires
notice-requires c =
    let r = ready _ _ c.args.self.now.own c.args.self.now.zero in
    (identity-fits _ _ r.sender c.front-sender.ensures, identity-fits _ _ r.identifier c.front-identifier.ensures, omega arith)

pub returns : goal.returns
unfolding own_in zero_filled_header
returns c =
    let r = ready _ _ c.args.self.now.own c.args.self.now.zero in
    notice-laid _ _ _ _ _ _ _ _ r.sender r.identifier (r.header c.requires) c.front-sender.ensures c.front-identifier.ensures c.put_body.ensures c.notice.ensures
