use native.Mathlib.Omega.{arith}
use Rattle.offers.proofs.Putting.{put-starts, next-group, next_low, put_last, fewer, put-more}
use Rattle.offers.proofs.put_withdrawals.Goals as goal

pub loop-j-init : goal.loop-j-init
loop-j-init c = put-starts _ _ _ _ _ c.requires.at_value c.lead-i.ensures

pub put_withdrawal-w-requires : goal.put_withdrawal-w-requires
put_withdrawal-w-requires c =
    let p = c.loop-j.invariant in
    let l = p.long in
    let k = next_low p c.requires.n_bound in
    record { at_value = next-group p; k_in_bounds = omega arith }

pub overflow_add-k : goal.overflow_add-k
overflow_add-k c = let k = next_low c.loop-j.invariant c.requires.n_bound in omega arith

pub returns-in-None : goal.returns-in-None
returns-in-None c = let both = put_last c.loop-j.invariant _ _ c.put_withdrawal-w.ensures.value c.put_withdrawal-w.ensures.batch_after c.in-None.is in record { value = both.0; batch_after = both.1 }

pub loop-j-smaller : goal.loop-j-smaller
loop-j-smaller c = fewer c.loop-j.invariant _ _ c.put_withdrawal-w.ensures.value c.put_withdrawal-w.ensures.batch_after _ c.in-Some.is

pub loop-j-preserved : goal.loop-j-preserved
loop-j-preserved c = put-more c.loop-j.invariant _ _ c.put_withdrawal-w.ensures.value c.put_withdrawal-w.ensures.batch_after _ c.in-Some.is
