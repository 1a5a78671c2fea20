-- What a body that a header has is known to have, one by one; and back.
use Prim.Native.Nat.{ℕ, ◌≤◌}
use mathlib.Core.Bool.{true}
use mathlib.Core.List.{List}
use mathlib.Core.Path.{◌≡◌}
use native.Mathlib.Omega.{arith}
use lib.ListN.{length, take, drop}
use borrow.Author.Tests.{leb-true, eqb-true, le-leb, eq-eqb}
use Rattle.octets.proofs.Tests.{each_of, every_of, between-low, between-high, between_is}
use Rattle.octets.specs.Bytes.{every, is_capital}
use Rattle.parts.proofs.Periods.{period-high}
use Rattle.parts.specs.Parts.{event_tests, event_ok, is_location, is_zero, locations_tests, locations_ok, is_period, times_tests, times_ok, body_tests, body_ok, station_tests, station_ok, no_body}
use Rattle.parts.specs.declared.Body.{Body}

pub record Has (b : Body) : Type 0 where
  pub three : length b.event ≡ 3
  pub capitals : every is_capital b.event ≡ true
  pub some : 1 ≤ b.count
  pub few : b.count ≤ 31
  pub long : length b.locations ≡ 31
  pub six : every is_location (take b.count b.locations) ≡ true
  pub rest : every is_zero (drop b.count b.locations) ≡ true
  pub period : is_period b.period ≡ true
  pub first : 1 ≤ b.day
  pub last : b.day ≤ 366
  pub hour : b.hour ≤ 23
  pub minute : b.minute ≤ 59

pub has : (b : Body) → body_ok b ≡ true → Has b
unfolding body_ok event_ok locations_ok times_ok
has b h =
    let a = each_of (body_tests b) h in
    let e = each_of (event_tests b.event) a.0 in
    let l = each_of (locations_tests b.count b.locations) a.1.0 in
    let t = each_of (times_tests b.period b.day b.hour b.minute) a.1.1.0 in
    record {
      three = eqb-true (length b.event) 3 e.0;
      capitals = e.1.0;
      some = between-low 1 31 b.count l.0;
      few = between-high 1 31 b.count l.0;
      long = eqb-true (length b.locations) 31 l.1.0;
      six = l.1.1.0;
      rest = l.1.1.1.0;
      period = t.0;
      first = between-low 1 366 b.day t.1.0;
      last = between-high 1 366 b.day t.1.0;
      hour = leb-true b.hour 23 t.1.1.0;
      minute = leb-true b.minute 59 t.1.1.1.0;
    }

-- and back
pub ok_of : (b : Body) → Has b → body_ok b ≡ true
unfolding body_ok event_ok locations_ok times_ok
ok_of b h =
    let e = every_of (event_tests b.event) (eq-eqb (length b.event) 3 h.three, (h.capitals, tt)) in
    let l = every_of (locations_tests b.count b.locations) (between_is 1 31 b.count h.some h.few, (eq-eqb (length b.locations) 31 h.long, (h.six, (h.rest, tt)))) in
    let t = every_of (times_tests b.period b.day b.hour b.minute) (h.period, (between_is 1 366 b.day h.first h.last, (le-leb b.hour 23 h.hour, (le-leb b.minute 59 h.minute, tt)))) in
    every_of (body_tests b) (e, (l, (t, tt)))

pub station-long : (t : List ℕ) → station_ok t ≡ true → length t ≡ 8
unfolding station_ok
station-long t h = eqb-true (length t) 8 (each_of (station_tests t) h).0

pub event-long : (t : List ℕ) → event_ok t ≡ true → length t ≡ 3
unfolding event_ok
event-long t h = eqb-true (length t) 3 (each_of (event_tests t) h).0

pub event-capitals : (t : List ℕ) → event_ok t ≡ true → every is_capital t ≡ true
unfolding event_ok
event-capitals t h = (each_of (event_tests t) h).1.0

-- ---- numbers that fit a few bits

pub record Small (b : Body) : Type 0 where
  pub count : b.count ≤ 31
  pub period : b.period ≤ 5970
  pub day : b.day ≤ 366
  pub hour : b.hour ≤ 23
  pub minute : b.minute ≤ 59

pub small : (b : Body) → body_ok b ≡ true → Small b
small b h =
    let a = has b h in
    record { count = a.few; period = period-high b.period a.period; day = a.last; hour = a.hour; minute = a.minute }

pub none-small : Small no_body
none-small = record { count = omega arith; period = omega arith; day = omega arith; hour = omega arith; minute = omega arith }
