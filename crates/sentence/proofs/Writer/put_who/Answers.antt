-- Four runs, one behind the other.
use mathlib.Core.Path.{ap}
use native.Mathlib.Omega.{arith}
use lib.ListN.{length}
use Rattle.octets.specs.Text.{bytes}
use Rattle.sentence.proofs.Lengths.{org-le, event-le}
use Rattle.sentence.proofs.Writers.{then}
use Rattle.sentence.specs.Words.{who_words}
use Rattle.sentence.proofs.Writer.put_who.Goals as goal

pub put-requires : goal.put-requires
put-requires c = omega (arith, org-le c.args.o, ap length c.org_words.ensures)

pub put-requires-2 : goal.put-requires-2
put-requires-2 c = omega (arith, org-le c.args.o, ap length c.org_words.ensures)

pub put_event-requires-clause-at_in_bounds : goal.put_event-requires-clause-at_in_bounds
put_event-requires-clause-at_in_bounds c = omega (arith, org-le c.args.o, ap length c.org_words.ensures)

pub put-requires-3 : goal.put-requires-3
put-requires-3 c = omega (arith, org-le c.args.o, ap length c.org_words.ensures, event-le c.args.e.now c.requires.e_len)

pub returns : goal.returns
unfolding who_words bytes
returns c = rw c.org_words.ensures at (then (then (then c.put.ensures c.put-2.ensures) c.put_event.ensures) c.put-3.ensures)
