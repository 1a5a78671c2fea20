-- What is left of the value and of w decides as the whole did; each turn takes one character of both.
use Rattle.octets.specs.Bytes.{same}
use Rattle.tags.specs.Attributes.{decoded_at}
use Rattle.tags.proofs.Decoding.{Decoding}
use Rattle.tags.proofs.value_is.Given as goal

abbrev pub invariant-loop-x : goal.invariant-loop-x
invariant-loop-x l = Decoding l.s l.w l.q (same (decoded_at l.s l.at) l.w) l.i l.x-index
