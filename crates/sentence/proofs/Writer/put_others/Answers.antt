-- Each location stands behind those before it.
use native.Mathlib.Omega.{arith}
use Rattle.octets.specs.Text.{bytes}
use Rattle.sentence.proofs.Writers.{none-put, then, named, others-step, others-room, others-over}
use Rattle.sentence.specs.Words.{others}
use Rattle.sentence.proofs.Writer.put_others.Goals as goal

pub loop-v-init : goal.loop-v-init
unfolding others
loop-v-init c = none-put _

pub put-requires : goal.put-requires
put-requires c = omega (arith, others-room c.args.list.now c.loop-v.v-index c.loop-v-test.true)

pub put_location-requires : goal.put_location-requires
put_location-requires c = omega (arith, others-room c.args.list.now c.loop-v.v-index c.loop-v-test.true)

pub loop-v-preserved : goal.loop-v-preserved
unfolding bytes
loop-v-preserved c = named (then (then c.loop-v.invariant c.put.ensures) c.put_location.ensures) _ (others-step c.args.list.now c.loop-v.v-index c.loop-v-test.true)

pub returns : goal.returns
returns c = named c.loop-v.invariant _ (others-over c.args.list.now c.loop-v.v-index c.loop-v-test.false)
