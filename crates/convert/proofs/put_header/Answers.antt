-- A header's parts have 35 bytes and 7 for each location.
use Prim.Native.Nat.{ℕ}
use mathlib.Core.Path.{sym, ap, ◌∙◌}
use mathlib.Core.List.{List}
use native.Mathlib.Omega.{arith}
use lib.Seq.{sets, take_all}
use Rattle.parts.proofs.Has.{has, station-long}
use Rattle.header.proofs.Lengths.{length-header}
use Rattle.convert.specs.WorkingConvert.{station_header}
use Rattle.convert.proofs.put_header.Goals as goal

pub bytes_at-station-requires : goal.bytes_at-station-requires
bytes_at-station-requires c = omega (arith, station-long _ c.requires.station_value)

pub put_header-requires : goal.put_header-requires
put_header-requires c = let h = has _ c.requires.b_value in record { count_bound = h.few; count_in_bounds = omega (arith, h.few, c.requires.in_bounds) }

pub overflow_mul-result : goal.overflow_mul-result
overflow_mul-result c = omega (arith, (has _ c.requires.b_value).few)

pub overflow_add-result : goal.overflow_add-result
overflow_add-result c = omega (arith, (has _ c.requires.b_value).few)

pub returns : goal.returns
returns c =
    let a = c.args in
    let station = a.station.now in
    let named = c.bytes_at-station.ensures ∙ take_all 8 station (omega (arith, station-long station c.requires.station_value)) in
    record { value = sym (length-header (record { body = a.b; station = station }) c.requires.b_value c.requires.station_value); out_after = c.put_header.ensures ∙ ap (λ (w : List ℕ). sets a.out.now 0 (station_header w a.b)) named }
