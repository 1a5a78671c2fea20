-- What each reader answers: refused where a test fails, taken where all hold; and what its answer says.
use Prim.Native.Nat.{ℕ, ◌+◌, ◌*◌, ◌≤◌, ◌<◌}
use mathlib.Core.Bool.{Bool, true, false}
use mathlib.Core.List.{List, [], ◌∷◌}
use mathlib.Core.Path.{◌≡◌, refl, sym, ap, ap₂, ◌∙◌}
use native.Mathlib.Omega.{arith}
use lib.ListN.{length, take, get_or}
use borrow.Author.Tests.{eqb-true, eq-eqb}
use Rattle.header.proofs.Locations.{picked-some, picked-none, locations-some}
use Rattle.header.specs.Body.{head_tests, head_form, head_read, locations_read, period_in, period_tests, period_form, period_read, day_in, hour_in, minute_in, time_form_tests, time_form, time_read, count_in, length_tests, length_form, location_count, times_part, body_form_tests, body_form, body_of, body_read, body_refusal, read_body_of}
use Rattle.header.specs.Header.{station_at, header_tests, header_form, parts_in, parts_read, refusal, read_of}
use Rattle.header.specs.declared.BodyRead.{BodyRead}
use Rattle.header.specs.declared.Time.{Time}
use Rattle.octets.proofs.Everys.{last-decides}
use Rattle.octets.proofs.Numbers.{picked_value, picked-bad, ranged-yes}
use Rattle.octets.specs.Digits.{ranged_of}
use Rattle.std.specs.Bool.{then_some}
use lib.Dec.{eqb}
use Rattle.octets.proofs.Tests.{never, Each, each_of, every_of, one-fails, between-low, between-high, picked}
use Rattle.octets.specs.Bytes.{pick, every, holds, byte_at, part}
use Rattle.parts.specs.Originator.{originator_of, is_known, known}
use Rattle.parts.specs.Parts.{is_period, station_ok}
use Rattle.parts.specs.declared.Body.{Body}
use Rattle.std.specs.Prelude.{Option, Some, None}
use Rattle.parts.specs.declared.Originator.{Originator}
use Rattle.parts.specs.declared.Parts.{Parts}

-- ---- the length

pub length-is : (n : ℕ) → length_form n ≡ true → n ≡ 26 + 7 * count_in n
unfolding length_form
length-is n h = eqb-true n (26 + 7 * count_in n) (each_of (length_tests n) h).1.0

pub some_in : (n : ℕ) → length_form n ≡ true → 1 ≤ count_in n
unfolding length_form
some_in n h = between-low 1 31 (count_in n) (each_of (length_tests n) h).0

pub few-in : (n : ℕ) → length_form n ≡ true → count_in n ≤ 31
unfolding length_form
few-in n h = between-high 1 31 (count_in n) (each_of (length_tests n) h).0

-- ---- `ZCZC-ORG-EEE`

pub head-refused : (i : ℕ) (s : List ℕ) → get_or (head_tests s) i true ≡ false → head_read s ≡ None
unfolding head_read head_form
head-refused i s h = rw (one-fails i (head_tests s) h)

pub head-taken : (s : List ℕ) (o : Originator) → Each (head_tests s) → originator_of (part s 5 3) ≡ Some o → head_read s ≡ Some o
unfolding head_read head_form
head-taken s o h e = picked (every holds (head_tests s)) (originator_of (part s 5 3)) None (every_of (head_tests s) h) ∙ e

picked-known : (b : Bool) (x : Option Originator) (o : Originator) → pick b x None ≡ Some o → (b ≡ true) × (x ≡ Some o)
picked-known true x o h = (refl, h)
picked-known false x o h = let z : ◌≡◌ {A = ℕ} 0 1 = cc in absurd (omega arith)

pub head-known : (s : List ℕ) (o : Originator) → head_read s ≡ Some o → (head_form s ≡ true) × (originator_of (part s 5 3) ≡ Some o)
unfolding head_read
head-known s o h = picked-known (head_form s) (originator_of (part s 5 3)) o h

picked-unknown : (b : Bool) (x : Option Originator) → (b ≡ true → is_known x ≡ true) → pick b x None ≡ None → b ≡ false
picked-unknown true x k h = sym (k refl) ∙ ap is_known h
picked-unknown false x k h = refl

pub head-unknown : (s : List ℕ) → head_read s ≡ None → head_form s ≡ false
unfolding head_read head_form
head-unknown s h = picked-unknown (every holds (head_tests s)) (originator_of (part s 5 3)) (λ e. (each_of (head_tests s) e).1.0) h

-- ---- `+TTTT` and `-JJJHHMM-`

pub period-refused : (i : ℕ) (t : List ℕ) → get_or (period_tests t) i true ≡ false → period_read t ≡ None
unfolding period_read period_form
period-refused i t h = rw (one-fails i (period_tests t) h)

then-is : (b : Bool) (v : ℕ) → pick b (Some v) None ≡ then_some b v
then-is true v = refl
then-is false v = refl

-- hours and minutes that are read leave the period to its own test
pub period-decided : (t : List ℕ) (h m : ℕ) (b : Bool) → eqb (byte_at t 0) 43 ≡ true → ranged_of 0 99 (part t 1 2) ≡ Some h → ranged_of 0 59 (part t 3 2) ≡ Some m → b ≡ is_period (h * 60 + m) → period_read t ≡ then_some b (h * 60 + m)
unfolding period_read period_form
period-decided t h m b p q r e =
    let x = ranged-yes 0 99 h (part t 1 2) q in
    let y = ranged-yes 0 59 m (part t 3 2) r in
    let whole : period_in t ≡ h * 60 + m = ap₂ (λ (a c : ℕ). a * 60 + c) x.1 y.1 in
    let test : every holds (period_tests t) ≡ b = last-decides (_ ∷ _ ∷ _ ∷ []) _ (p, (x.0, (y.0, tt))) ∙ ap is_period whole ∙ sym e in
    ap₂ (λ (c : Bool) (v : ℕ). pick c (Some v) None) test whole ∙ then-is b (h * 60 + m)

pub period-value : (t : List ℕ) (v : ℕ) → period_read t ≡ Some v → (period_form t ≡ true) × (period_in t ≡ v)
unfolding period_read
period-value t v h = picked_value (period_form t) (period_in t) v h

pub period-bad : (t : List ℕ) → period_read t ≡ None → period_form t ≡ false
unfolding period_read
period-bad t h = picked-bad (period_form t) (period_in t) h

pub time-refused : (i : ℕ) (t : List ℕ) → get_or (time_form_tests t) i true ≡ false → time_read t ≡ None
unfolding time_read time_form
time-refused i t h = rw (one-fails i (time_form_tests t) h)

-- the day, hour and minute that t has
abbrev time_in : List ℕ → Time
time_in t = record { day = day_in t; hour = hour_in t; minute = minute_in t }

pub time-taken : (t : List ℕ) (d h m : ℕ) → Each (time_form_tests t) → day_in t ≡ d → hour_in t ≡ h → minute_in t ≡ m → time_read t ≡ Some (record { day = d; hour = h; minute = m })
unfolding time_read time_form
time-taken t d h m e p q r = picked (every holds (time_form_tests t)) (Some (time_in t)) None (every_of (time_form_tests t) e) ∙ (λ i. Some (record { day = p i; hour = q i; minute = r i }))

pub time-at : (t : List ℕ) (x : Time) → time_read t ≡ Some x → (time_form t ≡ true) × (time_in t ≡ x)
unfolding time_read
time-at t x h = picked-some (time_form t) (time_in t) x h

pub time-no : (t : List ℕ) → time_read t ≡ None → time_form t ≡ false
unfolding time_read
time-no t h = picked-none (time_form t) (time_in t) h

-- ---- the body

pub body-unread : (i : ℕ) (s : List ℕ) → get_or (body_form_tests s) i true ≡ false → body_read s ≡ None
unfolding body_read body_form
body-unread i s h = rw (one-fails i (body_form_tests s) h)

pub body-refused : (s : List ℕ) → body_read s ≡ None → read_body_of s ≡ body_refusal
unfolding body_read read_body_of
body-refused s h = rw (picked-none (body_form s) (body_of s) h)

pub body-accepted : (s : List ℕ) → body_form s ≡ true → read_body_of s ≡ record { number = 0; body = body_of s }
unfolding read_body_of
body-accepted s h = rw h

pub body-some : (s : List ℕ) (b : Body) → body_read s ≡ Some b → (body_form s ≡ true) × (body_of s ≡ b)
unfolding body_read
body-some s b h = picked-some (body_form s) (body_of s) b h

pub body-no : (s : List ℕ) → body_read s ≡ None → body_form s ≡ false
unfolding body_read
body-no s h = picked-none (body_form s) (body_of s) h

pub body-read : (s : List ℕ) (b : Body) → body_read s ≡ Some b → read_body_of s ≡ record { number = 0; body = b }
body-read s b h = let t = body-some s b h in body-accepted s t.0 ∙ ap (λ (x : Body). record { number = 0; body = x }) t.1

-- what was read piece by piece is what the whole says
pub body-taken : (s : List ℕ) (o : Originator) (event list : List ℕ) (period : ℕ) (time : Time) →
    length_form (length s) ≡ true → head_read s ≡ Some o → event ≡ part s 9 3 → locations_read (location_count s) s 12 ≡ Some list →
    period_read (times_part s) ≡ Some period → time_read (times_part s) ≡ Some time →
    ◌≡◌ {A = Option Body} (Some (record { originator = o; event = event; count = location_count s; locations = list; period = period; day = time.day; hour = time.hour; minute = time.minute })) (body_read s)
unfolding body_of body_form body_read
body-taken s o event list period time n head e found p t =
    let h = head-known s o head in
    let f = locations-some (location_count s) s 12 list found in
    let v = period-value (times_part s) period p in
    let w = time-at (times_part s) time t in
    let all = every_of (body_form_tests s) (n, (h.0, (f.0, (v.0, (w.0, tt))))) in
    let b : ◌≡◌ {A = Body} (record { originator = o; event = event; count = location_count s; locations = list; period = period; day = time.day; hour = time.hour; minute = time.minute }) (body_of s)
    = λ i. record { originator = sym (ap known h.1) i; event = e i; count = location_count s; locations = sym f.1 i; period = sym v.1 i; day = (sym w.1 i).day; hour = (sym w.1 i).hour; minute = (sym w.1 i).minute } in
    ap Some b ∙ sym (picked (every holds (body_form_tests s)) (Some (body_of s)) None all)

-- number 0 says that the bytes are a body, and what it is
pub body-zero : (s : List ℕ) → (read_body_of s).number ≡ 0 → (body_form s ≡ true) × ((read_body_of s).body ≡ body_of s)
unfolding read_body_of
body-zero s = go (body_form s)
  where
    go : (b : Bool) → (pick {A = BodyRead} b (record { number = 0; body = body_of s }) body_refusal).number ≡ 0 → (b ≡ true) × ((pick {A = BodyRead} b (record { number = 0; body = body_of s }) body_refusal).body ≡ body_of s)
    go true e = (refl, refl)
    go false e = absurd (omega arith)

pub body-other : (s : List ℕ) → ((read_body_of s).number ≡ 0 → ⊥) → body_form s ≡ false
unfolding read_body_of
body-other s = go (body_form s)
  where
    go : (b : Bool) → ((pick {A = BodyRead} b (record { number = 0; body = body_of s }) body_refusal).number ≡ 0 → ⊥) → b ≡ false
    go true e = absurd (e refl)
    go false e = refl

-- ---- the header

pub header-unread : (i : ℕ) (s : List ℕ) → get_or (header_tests s) i true ≡ false → parts_read s ≡ None
unfolding parts_read header_form
header-unread i s h = rw (one-fails i (header_tests s) h)

pub header-refused : (s : List ℕ) → parts_read s ≡ None → read_of s ≡ refusal
unfolding parts_read read_of
header-refused s h = rw (picked-none (header_form s) (parts_in s) h)

pub header-accepted : (s : List ℕ) → header_form s ≡ true → read_of s ≡ record { number = 0; parts = parts_in s }
unfolding read_of
header-accepted s h = rw h

pub header-read : (s : List ℕ) (p : Parts) → parts_read s ≡ Some p → read_of s ≡ record { number = 0; parts = p }
unfolding parts_read
header-read s p h =
    let t = picked-some (header_form s) (parts_in s) p h in header-accepted s t.0 ∙ ap (λ (x : Parts). record { number = 0; parts = x }) t.1

pub header-taken : (s : List ℕ) (front : Body) (station : List ℕ) → body_read (take (station_at s) s) ≡ Some front →
    station_ok (part s (station_at s) 8) ≡ true → byte_at s (station_at s + 8) ≡ 45 → station ≡ part s (station_at s) 8 →
    ◌≡◌ {A = Option Parts} (Some (record { body = front; station = station })) (parts_read s)
unfolding parts_in header_form parts_read
header-taken s front station f k l e =
    let b = body-some (take (station_at s) s) front f in
    let all = every_of (header_tests s) (b.0, (k, (eq-eqb (byte_at s (station_at s + 8)) 45 l, tt))) in
    let p : ◌≡◌ {A = Parts} (record { body = front; station = station }) (parts_in s) = λ i. record { body = sym b.1 i; station = e i } in
    ap Some p ∙ sym (picked (every holds (header_tests s)) (Some (parts_in s)) None all)

-- no body is so short
pub body-long : (s : List ℕ) → body_form s ≡ true → (33 ≤ length s) × (length s ≤ 243)
unfolding body_form
body-long s h =
    let n = (each_of (body_form_tests s) h).0 in
    let e = length-is (length s) n in
    let some = some_in (length s) n in
    let few = few-in (length s) n in
    (omega arith, omega arith)

pub short-not : (s : List ℕ) → length s < 33 → body_form s ≡ false
short-not s h = never (body_form s) (λ e. omega (arith, (body-long s e).0))
