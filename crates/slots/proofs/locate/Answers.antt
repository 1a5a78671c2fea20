use native.Mathlib.Omega.{arith}
use Rattle.slots.proofs.Records.{laters-none, scan-less, scan-same, scan-more, scan-end}
use Rattle.slots.proofs.locate.Goals as goal

pub loop-i-init : goal.loop-i-init
loop-i-init c = laters-none _

pub returns-in-Less : goal.returns-in-Less
returns-in-Less c = scan-less _ _ _ _ _ c.first-held-items.ensures c.loop-i.invariant c.in-Less.ensures c.loop-i-test.true

pub returns-in-Equal : goal.returns-in-Equal
returns-in-Equal c = scan-same _ _ _ _ _ c.first-held-items.ensures c.loop-i.invariant c.in-Equal.ensures c.loop-i-test.true

pub loop-i-preserved : goal.loop-i-preserved
loop-i-preserved c = scan-more _ _ _ _ _ c.first-held-items.ensures c.loop-i.invariant c.in-Greater.ensures c.loop-i-test.true

pub returns : goal.returns
returns c = scan-end _ _ _ _ _ c.first-held-items.ensures c.loop-i.invariant (omega arith) c.loop-i.auto.i-end
