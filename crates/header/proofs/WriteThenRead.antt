-- Demand 2: reading a written header gives back its originator, event, locations in order, period, time and station.
--     read-written-header     the header, through a lent output
--     read-written-body       the header through the dash after JJJHHMM
--     written-header          how many bytes a written header has, where they stand, and that the rest is kept
use Prim.Native.Nat.{ℕ, zero, suc, ◌+◌, ◌*◌, ◌≤◌}
use mathlib.Core.Bool.{true}
use mathlib.Core.List.{List, [], ◌∷◌, ◌++◌}
use mathlib.Core.Path.{◌≡◌, refl, sym, ap, ap₂, ◌∙◌}
use native.Mathlib.Nat.{zero-add}
use native.Mathlib.Omega.{arith}
use lib.ListN.{length, take, drop, get_or}
use lib.Seq.{sets-eq, take_at, drop_at, get_or_at, take_all, drop-drop, get_or-drop, length-take-le}
use borrow.Author.Tests.{eq-eqb}
use Rattle.header.proofs.Lengths.{length-originator, length-times, length-first, length-body, length-header}
use Rattle.header.proofs.Locations.{locations-back}
use Rattle.header.proofs.Reading.{body-accepted, header-accepted}
use Rattle.header.proofs.Times.{period-back, period-form, time-form, day-back, hour-back, minute-back}
use Rattle.header.proofs.Writing.{write-refused, write_done, answered}
use Rattle.header.specs.Body.{locations_bytes, times_bytes, body_bytes, head_tests, head_form, locations_form, locations_of, period_in, period_form, day_in, hour_in, minute_in, time_form, count_in, length_tests, length_form, location_count, times_part, body_form_tests, body_form, body_of, read_body_of}
use Rattle.header.specs.Header.{header_bytes, station_at, header_tests, header_form, parts_in, read_of, write_number, write_of, write_bytes}
use Rattle.header.specs.declared.Written.{Written}
use Rattle.octets.proofs.Tests.{each_of, every_of, between_is}
use Rattle.octets.specs.Bytes.{byte_at, part, same}
use Rattle.octets.specs.Text.{bytes}
use Rattle.parts.proofs.Has.{Has, has, station-long}
use Rattle.parts.proofs.Padded.{padded-is}
use Rattle.parts.specs.Parts.{padded}
use Rattle.parts.specs.Originator.{originator_bytes, originator_of, is_known, known}
use Rattle.parts.specs.Parts.{event_ok, body_tests, body_ok, station_ok}
use Rattle.parts.specs.declared.Body.{Body}
use Rattle.std.specs.Prelude.{Some}
use Rattle.parts.specs.declared.Originator.{Originator}
use Rattle.parts.specs.declared.Originator.TheVariants.{Pep, Eas, Wxr, Civ}
use Rattle.parts.specs.declared.Parts.{Parts}

pub originator-back : (o : Originator) → originator_of (originator_bytes o) ≡ Some o
unfolding originator_of originator_bytes bytes same
originator-back Pep = refl
originator-back Eas = refl
originator-back Wxr = refl
originator-back Civ = refl

-- ---- the body

-- what stands behind ZCZC-ORG, behind the event, and behind the locations
abbrev behind_all : Body → List ℕ
behind_all b = times_bytes b.period b.day b.hour b.minute

abbrev behind_event : Body → List ℕ
behind_event b = locations_bytes (take b.count b.locations) ++ behind_all b

abbrev behind_org : Body → List ℕ
behind_org b = 45 ∷ (b.event ++ behind_event b)

module _ (b : Body) (ok : body_ok b ≡ true) where
  h : Has b
  h = has b ok

  from-8 : drop 8 (body_bytes b) ≡ behind_org b
  unfolding body_bytes bytes
  from-8 = drop_at (originator_bytes b.originator) (behind_org b) 3 (length-originator b.originator)

  from-9 : drop 9 (body_bytes b) ≡ b.event ++ behind_event b
  from-9 = sym (drop-drop 1 8 (body_bytes b)) ∙ ap (drop 1) from-8

  from-12 : drop 12 (body_bytes b) ≡ behind_event b
  from-12 = sym (drop-drop 3 9 (body_bytes b)) ∙ ap (drop 3) from-9 ∙ drop_at b.event (behind_event b) 3 h.three

  from-times : drop (12 + 7 * b.count) (body_bytes b) ≡ behind_all b
  from-times =
      let long = length-first b.count b.locations (omega (arith, h.few, h.long)) in
      sym (drop-drop (7 * b.count) 12 (body_bytes b)) ∙ ap (drop (7 * b.count)) from-12 ∙ drop_at (locations_bytes (take b.count b.locations)) (behind_all b) (7 * b.count) long

  pub body-length : length (body_bytes b) ≡ 26 + 7 * b.count
  body-length = length-body b h.three (omega (arith, h.few, h.long))

  count-is : location_count (body_bytes b) ≡ b.count
  count-is = omega (arith, body-length)

  length-form : length_form (length (body_bytes b)) ≡ true
  unfolding length_form
  length-form =
      let n = length (body_bytes b) in
      every_of (length_tests n) (between_is 1 31 (count_in n) (omega (arith, count-is, h.some)) (omega (arith, count-is, h.few)), (eq-eqb n (26 + 7 * count_in n) (omega (arith, body-length, count-is)), tt))

  originator-part : part (body_bytes b) 5 3 ≡ originator_bytes b.originator
  unfolding body_bytes bytes
  originator-part = take_at (originator_bytes b.originator) (behind_org b) 3 (length-originator b.originator)

  event-part : part (body_bytes b) 9 3 ≡ b.event
  event-part = ap (take 3) from-9 ∙ take_at b.event (behind_event b) 3 h.three

  head-form : head_form (body_bytes b) ≡ true
  unfolding head_form body_bytes bytes same body_ok
  head-form =
      let dash = sym (get_or-drop 8 (body_bytes b) 0 0) ∙ ap (λ (l : List ℕ). get_or l 0 0) from-8 in
      every_of (head_tests (body_bytes b))
      (refl, (ap (λ (l : List ℕ). is_known (originator_of l)) originator-part ∙ ap is_known (originator-back b.originator), (eq-eqb (get_or (body_bytes b) 8 0) 45 dash, (ap event_ok event-part ∙ (each_of (body_tests b) ok).0, tt))))

  locations-part : (locations_form b.count (body_bytes b) 12 ≡ true) × (locations_of b.count (body_bytes b) 12 ≡ take b.count b.locations)
  locations-part =
      rw (length-take-le b.count b.locations (omega (arith, h.few, h.long))) at (locations-back (take b.count b.locations) (body_bytes b) (behind_all b) 12 from-12 h.six)

  times-part : times_part (body_bytes b) ≡ behind_all b
  times-part =
      ap (λ (k : ℕ). part (body_bytes b) (12 + 7 * k) 14) count-is ∙ ap (take 14) from-times
      ∙ take_all 14 (behind_all b) (omega (arith, length-times b.period b.day b.hour b.minute))

  body-form : body_form (body_bytes b) ≡ true
  unfolding body_form
  body-form =
      every_of (body_form_tests (body_bytes b)) (
        length-form,
        (
          head-form,
          (
            ap (λ (k : ℕ). locations_form k (body_bytes b) 12) count-is ∙ locations-part.0,
            (
              ap period_form times-part ∙ period-form b.period b.day b.hour b.minute h.period h.first h.last h.hour h.minute,
              (ap time_form times-part ∙ time-form b.period b.day b.hour b.minute h.period h.first h.last h.hour h.minute, tt),
            ),
          ),
        ),
      )

  pub body_back : body_of (body_bytes b) ≡ b
  unfolding body_of
  body_back =
      let o = ap (λ (l : List ℕ). known (originator_of l)) originator-part ∙ ap known (originator-back b.originator) in
      let l = ap (λ (k : ℕ). padded (locations_of k (body_bytes b) 12)) count-is ∙ ap padded locations-part.1 ∙ padded-is b.locations b.count h.long h.few h.rest in
      let p = ap period_in times-part ∙ period-back b.period b.day b.hour b.minute h.period h.first h.last h.hour h.minute in
      let d = ap day_in times-part ∙ day-back b.period b.day b.hour b.minute h.period h.first h.last h.hour h.minute in
      let u = ap hour_in times-part ∙ hour-back b.period b.day b.hour b.minute h.period h.first h.last h.hour h.minute in
      let m = ap minute_in times-part ∙ minute-back b.period b.day b.hour b.minute h.period h.first h.last h.hour h.minute in
      λ i. record { originator = o i; event = event-part i; count = count-is i; locations = l i; period = p i; day = d i; hour = u i; minute = m i }

  -- reading the bytes of a body that a header has gives back that body
  pub read-written-body : read_body_of (body_bytes b) ≡ record { number = 0; body = b }
  read-written-body = body-accepted (body_bytes b) body-form ∙ ap (λ (x : Body). record { number = 0; body = x }) body_back

-- ---- the header

module _ (p : Parts) (ok : body_ok p.body ≡ true) (st : station_ok p.station ≡ true) where
  at-is : station_at (header_bytes p) ≡ length (body_bytes p.body)
  at-is = omega (arith, length-header p ok st, body-length p.body ok)

  front-is : take (station_at (header_bytes p)) (header_bytes p) ≡ body_bytes p.body
  unfolding header_bytes
  front-is = take_at (body_bytes p.body) (p.station ++ (45 ∷ [])) (station_at (header_bytes p)) (sym at-is)

  rest-is : drop (station_at (header_bytes p)) (header_bytes p) ≡ p.station ++ (45 ∷ [])
  unfolding header_bytes
  rest-is = drop_at (body_bytes p.body) (p.station ++ (45 ∷ [])) (station_at (header_bytes p)) (sym at-is)

  station-is : part (header_bytes p) (station_at (header_bytes p)) 8 ≡ p.station
  station-is = ap (take 8) rest-is ∙ take_at p.station (45 ∷ []) 8 (station-long p.station st)

  dash-is : byte_at (header_bytes p) (station_at (header_bytes p) + 8) ≡ 45
  dash-is = sym (get_or-drop (station_at (header_bytes p)) (header_bytes p) 8 0) ∙ ap (λ (l : List ℕ). get_or l 8 0) rest-is ∙ get_or_at p.station 45 [] 0 8 (station-long p.station st)

  pub read-header-bytes : read_of (header_bytes p) ≡ record { number = 0; parts = p }
  unfolding header_form parts_in
  read-header-bytes =
      let s = header_bytes p in
      let form = every_of (header_tests s)
      (ap body_form front-is ∙ body-form p.body ok, (ap station_ok station-is ∙ st, (eq-eqb (byte_at s (station_at s + 8)) 45 dash-is, tt))) in
      let b = ap body_of front-is ∙ body_back p.body ok in
      header-accepted s form ∙ (λ i. record { number = 0; parts = record { body = b i; station = station-is i } })

-- ---- demand 2, first half

-- A written header has 35 bytes and 7 for each location, at most 252, and they are put at the start of the output.
pub record WrittenAs (d : List ℕ) (p : Parts) : Type 0 where
  pub len : (write_of d p).len ≡ 35 + 7 * p.body.count
  pub most : (write_of d p).len ≤ 252
  pub is : take (write_of d p).len (write_bytes d p) ≡ header_bytes p
  pub kept : drop (write_of d p).len (write_bytes d p) ≡ drop (write_of d p).len d

pub written-header : (d : List ℕ) (p : Parts) → (write_of d p).number ≡ 0 → WrittenAs d p
unfolding write_of
written-header d p e =
    let a = answered (length d) p e in
    let done = write_done d p e in
    let s = header_bytes p in
    let l : (write_of d p).len ≡ length s = ap (λ (r : Written). r.len) done.0 in
    let n = length-header p a.body a.station in
    let few = (has p.body a.body).few in
    let fits : 0 + length s ≤ length d = omega (arith, n, few, a.fits) in
    let x = done.1 ∙ sets-eq s d 0 fits in
    let rest : drop (0 + length s) d ≡ drop (length s) d = ap (λ (k : ℕ). drop k d) (zero-add (length s)) in
    record {
      len = l ∙ n;
      most = omega (arith, l, n, few);
      is = ap₂ take l x ∙ take_at s (drop (0 + length s) d) (length s) refl;
      kept = ap₂ drop l x ∙ drop_at s (drop (0 + length s) d) (length s) refl ∙ rest ∙ ap (λ (k : ℕ). drop k d) (sym l);
    }

-- refused or not, what a write returns is at most 252
pub write-small : (d : List ℕ) (p : Parts) → (write_of d p).len ≤ 252
unfolding write_of
write-small d p = go (write_number (length d) p) refl
  where
    go : (n : ℕ) → write_number (length d) p ≡ n → (write_of d p).len ≤ 252
    go zero e = (written-header d p e).most
    go (suc k) e = let l : (write_of d p).len ≡ 0 = ap (λ (r : Written). r.len) (write-refused d p k e).0 in omega arith

-- Reading a written header gives back its originator, event, locations in order, period, time and station.
pub read-written-header : (d : List ℕ) (p : Parts) → (write_of d p).number ≡ 0 → read_of (take (write_of d p).len (write_bytes d p)) ≡ record { number = 0; parts = p }
unfolding write_of
read-written-header d p e =
    let a = answered (length d) p e in
    ap read_of (written-header d p e).is ∙ read-header-bytes p a.body a.station
