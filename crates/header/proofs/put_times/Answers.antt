-- Five runs, one behind the other.
use Prim.Native.Nat.{◌+◌}
use mathlib.Core.List.{[], ◌∷◌, append_assoc}
use mathlib.Core.Path.{refl, ◌∙◌}
use native.Mathlib.Omega.{arith}
use Rattle.clock.specs.Written.{tttt, jjjhhmm}
use Rattle.header.proofs.Lengths.{length-tttt, length-jjjhhmm}
use Rattle.header.specs.Body.{times_bytes}
use Rattle.octets.proofs.Runs.{begin, goes_on, and}
use Rattle.header.proofs.put_times.Goals as goal

pub returns : goal.returns
unfolding times_bytes
returns c =
    let a = c.args in
    let b = a.b.now in
    let one = and (begin a.out.now a.at) (43 ∷ []) _ (a.at + 1) refl c.put_byte.ensures in
    let two = and one (tttt b.period) _ (a.at + 5) (omega (arith, length-tttt b.period)) c.put_tttt.ensures in
    let three = and two (45 ∷ []) _ (a.at + 6) (omega arith) c.put_byte-2.ensures in
    let four = and three (jjjhhmm b.day b.hour b.minute) _ (a.at + 13) (omega (arith, length-jjjhhmm b.day b.hour b.minute)) c.put_jjjhhmm.ensures in
    simp append_assoc at (c.put_byte-3.ensures ∙ goes_on four (45 ∷ []))
