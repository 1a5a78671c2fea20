-- Who, where and when, one behind the other; the room is that of the longest sentence.
use Prim.Native.Nat.{ℕ}
use native.Mathlib.Omega.{arith}
use lib.ListN.{take, length-take}
use borrow.Author.Rules.{rules}
use Rattle.sentence.proofs.Lengths.{who-le, joined-le}
use Rattle.sentence.proofs.Writers.{then}
use Rattle.sentence.specs.Words.{sentence_of}
use Rattle.sentence.proofs.Writer.put_sentence.Goals as goal

pub put_joined-requires : goal.put_joined-requires
put_joined-requires c =
    let b = c.args.b in
    omega (arith, who-le b.originator b.event (search rules), joined-le (take b.count b.locations) (omega (arith, length-take {A = ℕ}, c.requires.le_count.1)))

pub put_when-requires : goal.put_when-requires
put_when-requires c =
    let b = c.args.b in
    omega (arith, who-le b.originator b.event (search rules), joined-le (take b.count b.locations) (omega (arith, length-take {A = ℕ}, c.requires.le_count.1)))

pub returns : goal.returns
unfolding sentence_of
returns c = then (then c.put_who.ensures c.put_joined.ensures) c.put_when.ensures
