-- Six runs, one behind the other.
use Prim.Native.Nat.{◌+◌, ◌*◌}
use mathlib.Core.List.{[], ◌∷◌, append_assoc}
use mathlib.Core.Path.{◌≡◌, refl, ap, ◌∙◌}
use native.Mathlib.Omega.{arith}
use lib.ListN.{length, take}
use lib.Seq.{sets, length-take-le}
use borrow.Author.Rules.{rules}
use Rattle.header.proofs.Lengths.{length-originator, length-first}
use Rattle.header.specs.Body.{locations_bytes, times_bytes, body_bytes}
use Rattle.octets.proofs.Runs.{begin, goes_on, and}
use Rattle.octets.specs.Text.{bytes}
use Rattle.parts.specs.Originator.{originator_bytes}
use Rattle.header.proofs.put_body.Goals as goal

pub put_bytes-requires-2 : goal.put_bytes-requires-2
put_bytes-requires-2 c =
    omega (arith, length-originator c.args.b.originator, ap length c.code.ensures, c.requires.count_in_bounds, c.put_bytes.auto.out)

pub put_bytes-requires-3 : goal.put_bytes-requires-3
put_bytes-requires-3 c =
    let event : length c.args.b.event ≡ 3 = search rules in
    omega (arith, event, c.requires.count_in_bounds, c.put_bytes.auto.out, c.put_bytes-2.auto.out, c.put_byte.auto.out)

pub put_locations-requires : goal.put_locations-requires
put_locations-requires c =
    let b = c.args.b in
    let list : length b.locations ≡ 31 = search rules in
    let long = length-take-le b.count b.locations (omega (arith, list, c.requires.count_bound)) in
    omega (arith, long, c.requires.count_in_bounds, c.put_bytes.auto.out, c.put_bytes-2.auto.out, c.put_byte.auto.out, c.put_bytes-3.auto.out)

pub returns : goal.returns
unfolding body_bytes bytes
returns c =
    let a = c.args in
    let b = a.b in
    let event : length b.event ≡ 3 = search rules in
    let list : length b.locations ≡ 31 = search rules in
    let l = locations_bytes (take b.count b.locations) in
    let long = length-first b.count b.locations (omega (arith, list, c.requires.count_bound)) in
    let one = and (begin a.out.now a.at) (bytes "ZCZC-") _ (a.at + 5) refl c.put_bytes.ensures in
    let two = and one (originator_bytes b.originator) _ (a.at + 8) (omega (arith, length-originator b.originator)) (c.put_bytes-2.ensures ∙ ap (sets c.put_bytes.new.out (a.at + 5)) c.code.ensures) in
    let three = and two (45 ∷ []) _ (a.at + 9) (omega arith) c.put_byte.ensures in
    let four = and three b.event _ (a.at + 12) (omega (arith, event)) c.put_bytes-3.ensures in
    let five = and four l _ (a.at + 12 + 7 * b.count) (omega arith) c.put_locations.ensures in
    simp append_assoc at (c.put_times.ensures ∙ goes_on five (times_bytes b.period b.day b.hour b.minute))
