use Prim.Native.Nat.{ℕ, ◌+◌, ◌*◌}
use mathlib.Core.List.{List}
use mathlib.Core.Path.{◌≡◌, sym, ap, ◌∙◌}
use native.Mathlib.Omega.{arith}
use lib.ListN.{drop_of_length-le}
use lib.Seq.{sets}
use Rattle.header.proofs.Locations.{location-step, no-locations}
use Rattle.header.specs.Body.{locations_bytes}
use Rattle.octets.proofs.Parts.{tail_step}
use Rattle.header.proofs.put_locations.Goals as goal

pub loop-k-init : goal.loop-k-init
loop-k-init c =
    let a = c.args in
    let from : a.at + 7 * 0 ≡ a.at = omega arith in
    ap (λ (i : ℕ). sets a.out.now i (locations_bytes a.locations.now)) from

pub loop-k-preserved : goal.loop-k-preserved
loop-k-preserved c =
    let a = c.args in
    let l = c.loop-k in
    let e = ap (λ (vs : List ℕ). sets l.out (a.at + 7 * l.k) (locations_bytes vs)) (sym (tail_step a.locations.now l.k c.loop-k-test.true)) ∙ l.invariant in
    location-step _ _ _ _ _ _ _ _ c.put_byte.ensures c.put_number.ensures (omega arith) e

pub returns : goal.returns
returns c =
    let a = c.args in
    let l = c.loop-k in
    let e = ap locations_bytes (drop_of_length-le a.locations.now c.loop-k-test.false) ∙ no-locations in
    ap (sets l.out (a.at + 7 * l.k)) (sym e) ∙ l.invariant
