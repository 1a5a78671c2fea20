-- How many bytes each piece of a header has.
use Prim.Native.Nat.{ℕ, ◌+◌, ◌*◌, ◌≤◌}
use mathlib.Core.Bool.{true}
use mathlib.Core.List.{List, [], ◌∷◌, ◌++◌}
use mathlib.Core.Path.{◌≡◌, refl, ap, ◌∙◌}
use native.Mathlib.Omega.{arith}
use lib.ListN.{length, take, length-append}
use lib.Seq.{length-take-le}
use Rattle.clock.specs.Written.{tttt, jjjhhmm}
use Rattle.header.specs.Body.{locations_bytes, times_bytes, body_bytes}
use Rattle.header.specs.Header.{header_bytes}
use Rattle.octets.proofs.Numbers.{length_digits}
use Rattle.octets.specs.Digits.{digits}
use Rattle.octets.specs.Text.{bytes}
use Rattle.parts.proofs.Has.{has, station-long}
use Rattle.parts.specs.Originator.{originator_bytes}
use Rattle.parts.specs.Parts.{body_ok, station_ok}
use Rattle.parts.specs.declared.Body.{Body}
use Rattle.parts.specs.declared.Originator.{Originator}
use Rattle.parts.specs.declared.Originator.TheVariants.{Pep, Eas, Wxr, Civ}
use Rattle.parts.specs.declared.Parts.{Parts}

pub length-originator : (o : Originator) → length (originator_bytes o) ≡ 3
unfolding originator_bytes bytes
length-originator Pep = refl
length-originator Eas = refl
length-originator Wxr = refl
length-originator Civ = refl

pub length-locations : (vs : List ℕ) → length (locations_bytes vs) ≡ 7 * length vs
unfolding locations_bytes
length-locations [] = refl
length-locations (v ∷ vs) = omega (arith, length-append (digits 6 v) (locations_bytes vs), length_digits 6 v, length-locations vs)

pub length-tttt : (m : ℕ) → length (tttt m) ≡ 4
unfolding tttt digits
length-tttt m = refl

pub length-jjjhhmm : (day hour minute : ℕ) → length (jjjhhmm day hour minute) ≡ 7
unfolding jjjhhmm digits
length-jjjhhmm day hour minute = refl

pub length-times : (period day hour minute : ℕ) → length (times_bytes period day hour minute) ≡ 14
unfolding times_bytes tttt jjjhhmm digits
length-times period day hour minute = refl

-- the first n locations of a list
pub length-first : (n : ℕ) (l : List ℕ) → n ≤ length l → length (locations_bytes (take n l)) ≡ 7 * n
length-first n l h = length-locations (take n l) ∙ ap (λ (k : ℕ). 7 * k) (length-take-le n l h)

-- 26 bytes, and 7 for each location
pub length-body : (b : Body) → length b.event ≡ 3 → b.count ≤ length b.locations → length (body_bytes b) ≡ 26 + 7 * b.count
unfolding body_bytes bytes
length-body b e h =
    let times = times_bytes b.period b.day b.hour b.minute in
    let places = locations_bytes (take b.count b.locations) in
    omega (
      arith,
      length-append (originator_bytes b.originator) (45 ∷ (b.event ++ (places ++ times))),
      length-originator b.originator,
      length-append b.event (places ++ times),
      length-append places times,
      length-first b.count b.locations h,
      length-times b.period b.day b.hour b.minute,
    )

-- and 9 for the station and its dash
pub length-header : (p : Parts) → body_ok p.body ≡ true → station_ok p.station ≡ true → length (header_bytes p) ≡ 35 + 7 * p.body.count
unfolding header_bytes
length-header p h k =
    let a = has p.body h in
    omega (
      arith,
      length-append (body_bytes p.body) (p.station ++ (45 ∷ [])),
      length-body p.body a.three (omega arith),
      length-append p.station (45 ∷ []),
      station-long p.station k,
    )
