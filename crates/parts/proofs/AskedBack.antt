-- Whatever parts a header has, a caller over numbers and bytes can ask for them.
use Prim.Native.Nat.{ℕ, ◌+◌, ◌*◌, ◌/◌, ◌<◌}
use mathlib.Core.Bool.{true}
use mathlib.Core.List.{List, [], ◌∷◌}
use mathlib.Core.Path.{◌≡◌, refl, sym, ap, ap₂, ◌∙◌}
use native.Mathlib.Omega.{arith}
use lib.Dec.{eqb}
use lib.ListN.{length, take, drop, length-append}
use lib.Seq.{take_at, drop_at, drop-drop, length-take-le}
use borrow.Author.Tests.{ltb-true, le-leb, eq-eqb}
use Rattle.octets.proofs.Numbers.{length_digits, value-digits, digits_are}
use Rattle.octets.proofs.Tests.{every_of, every-none, every_first, every_rest, every_append, picked}
use Rattle.octets.specs.Bytes.{every, part, is_digit}
use Rattle.octets.specs.Digits.{all_digits, value, digits}
use Rattle.parts.proofs.Asking.{asked-taken}
use Rattle.parts.proofs.Has.{has, station-long}
use Rattle.parts.proofs.Padded.{padded-is}
use Rattle.parts.specs.Parts.{padded}
use Rattle.parts.specs.WorkingAsked.{sixes_bytes, sixes, sixes_tests, sixes_ok, asked_body, asked_station, asked_parts}
use Rattle.parts.specs.Originator.{originator_number, numbered}
use Rattle.parts.specs.Parts.{is_location, body_ok, station_ok, no_station}
use Rattle.parts.specs.declared.Body.{Body}
use Rattle.std.specs.Prelude.{Some}
use Rattle.parts.specs.declared.Originator.{Originator}
use Rattle.parts.specs.declared.Originator.TheVariants.{Pep, Eas, Wxr, Civ}
use Rattle.parts.specs.declared.Parts.{Parts}

pub numbered-back : (o : Originator) → numbered (originator_number o) ≡ Some o
unfolding numbered
numbered-back Pep = refl
numbered-back Eas = refl
numbered-back Wxr = refl
numbered-back Civ = refl

length-sixes : (vs : List ℕ) → length (sixes_bytes vs) ≡ 6 * length vs
unfolding sixes_bytes
length-sixes [] = refl
length-sixes (v ∷ vs) = omega (arith, length-append (digits 6 v) (sixes_bytes vs), length_digits 6 v, length-sixes vs)

sixes-digits : (vs : List ℕ) → all_digits (sixes_bytes vs) ≡ true
unfolding sixes_bytes
sixes-digits [] = every-none is_digit
sixes-digits (v ∷ vs) = every_append is_digit (digits 6 v) (sixes_bytes vs) (digits_are 6 v) (sixes-digits vs)

sixes-back : (vs s : List ℕ) (at : ℕ) → drop at s ≡ sixes_bytes vs → every is_location vs ≡ true → sixes (length vs) s at ≡ vs
unfolding sixes sixes_bytes is_location
sixes-back [] s at e h = refl
sixes-back (v ∷ vs) s at e h =
    let low : v < 1000000 = ltb-true v 1000000 (every_first is_location v vs h) in
    let eₚ : part s at 6 ≡ digits 6 v = ap (take 6) e ∙ take_at (digits 6 v) (sixes_bytes vs) 6 (length_digits 6 v) in
    let e₆ : drop (at + 6) s ≡ sixes_bytes vs = sym (drop-drop 6 at s) ∙ ap (drop 6) e ∙ drop_at (digits 6 v) (sixes_bytes vs) 6 (length_digits 6 v) in
    ap₂ (λ (x : ℕ) (xs : List ℕ). x ∷ xs) (ap value eₚ ∙ value-digits 6 v low) (sixes-back vs s (at + 6) e₆ (every_rest is_location v vs h))

-- all parts that a header has can be asked
pub asked-back : (p : Parts) → body_ok p.body ≡ true → station_ok p.station ≡ true →
    asked_parts (originator_number p.body.originator) p.body.event (sixes_bytes (take p.body.count p.body.locations)) p.body.period p.body.day p.body.hour p.body.minute p.station ≡ p
unfolding asked_parts asked_station sixes_ok
asked-back p ok st =
    let b = p.body in
    let h = has b ok in
    let vs = take b.count b.locations in
    let ls = sixes_bytes vs in
    let few = h.few in
    let many : length vs ≡ b.count = length-take-le b.count b.locations (omega (arith, h.few, h.long)) in
    let long = length-sixes vs in
    let count : length ls / 6 ≡ b.count = omega arith in
    let fine = every_of (sixes_tests ls) (le-leb (length ls) 186 (omega arith), (eq-eqb (length ls) (6 * (length ls / 6)) (omega arith), (sixes-digits vs, tt))) in
    let list : b.locations ≡ padded (sixes (length ls / 6) ls 0) =
    sym (ap (λ (n : ℕ). padded (sixes n ls 0)) (count ∙ sym many) ∙ ap padded (sixes-back vs ls 0 refl h.six) ∙ padded-is b.locations b.count h.long h.few h.rest) in
    let body = asked-taken (originator_number b.originator) b.event ls b.period b.day b.hour b.minute b.originator b.event b.locations (numbered-back b.originator) h.three fine refl list in
    let whole : ◌≡◌ {A = Body} (asked_body (originator_number b.originator) b.event ls b.period b.day b.hour b.minute) b
    = sym body ∙ (λ i. record { originator = b.originator; event = b.event; count = count i; locations = b.locations; period = b.period; day = b.day; hour = b.hour; minute = b.minute }) in
    λ i. record { body = whole i; station = picked (eqb (length p.station) 8) p.station no_station (eq-eqb (length p.station) 8 (station-long p.station st)) i }
