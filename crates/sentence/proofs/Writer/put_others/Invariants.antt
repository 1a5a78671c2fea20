-- The locations so far have been put.
use lib.ListN.{take}
use Rattle.sentence.specs.Words.{others}
use Rattle.sentence.specs.WorkingWriter.{Wrote}
use Rattle.sentence.proofs.Writer.put_others.Given as goal

abbrev pub invariant-loop-v : goal.invariant-loop-v
invariant-loop-v l = Wrote l.initial.self l.self (others (take l.v-index l.list))
