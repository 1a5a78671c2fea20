-- The body, the station and the dash, one behind the other.
use Prim.Native.Nat.{◌+◌, ◌*◌}
use mathlib.Core.List.{[], ◌∷◌, ◌++◌}
use mathlib.Core.Path.{◌≡◌}
use native.Mathlib.Omega.{arith}
use lib.ListN.{length}
use borrow.Author.Rules.{rules}
use Rattle.header.proofs.Lengths.{length-body}
use Rattle.header.specs.Body.{body_bytes}
use Rattle.header.specs.Header.{header_bytes}
use Rattle.octets.proofs.Runs.{behind}
use Rattle.header.proofs.put_header.Goals as goal

pub put_bytes-requires : goal.put_bytes-requires
put_bytes-requires c =
    let station : length c.args.p.station ≡ 8 = search rules in
    omega (arith, station, c.requires.count_in_bounds, c.put_body.auto.out)

pub returns : goal.returns
unfolding header_bytes
returns c =
    let a = c.args in
    let p = a.p in
    let station : length p.station ≡ 8 = search rules in
    let event : length p.body.event ≡ 3 = search rules in
    let list : length p.body.locations ≡ 31 = search rules in
    let long = length-body p.body event (omega (arith, list, c.requires.count_bound)) in
    let two = behind _ (26 + 7 * p.body.count) p.station {e = 26 + 7 * p.body.count + 8} (45 ∷ []) c.put_bytes.ensures (omega (arith, station)) c.put_byte.ensures in
    behind a.out.now 0 (body_bytes p.body) {e = 26 + 7 * p.body.count} (p.station ++ (45 ∷ [])) c.put_body.ensures (omega arith) two
