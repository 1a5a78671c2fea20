-- The header through the dash after JJJHHMM, `ZCZC-ORG-EEE-PSSCCC+TTTT-JJJHHMM-`, with 1 to 31 locations, each after a dash:
-- its bytes for given parts, which bytes are of this form, and the parts that they say.
use Rattle.std.specs.Prelude.{ℕ, zero, suc, ◌+◌, ◌-◌, ◌*◌, ◌/◌, Bool, true, List, [], ◌∷◌, ◌++◌, length, take, eqb}
use Rattle.octets.specs.Bytes.{pick, every, holds, between, byte_at, part, stands}
use Rattle.octets.specs.Text.{bytes}
use Rattle.octets.specs.Digits.{all_digits, value, digits, in_range}
use Rattle.clock.specs.Written.{tttt, jjjhhmm}
use Rattle.parts.specs.Originator.{originator_bytes, originator_of, is_known, known}
use Rattle.parts.specs.Parts.{event_ok, is_period, no_body}
use Rattle.parts.specs.Parts.{padded}
use Rattle.std.specs.Prelude.{Option, Some, None}
use Rattle.parts.specs.declared.Originator.{Originator}
use Rattle.parts.specs.declared.Body.{Body}
use Rattle.header.specs.declared.Time.{Time}
use Rattle.header.specs.declared.BodyRead.{BodyRead}

abbrev pub dash : ℕ
dash = 45

abbrev pub plus : ℕ
plus = 43

-- ---- the bytes of given parts

-- the locations, each after a dash
unfoldable pub locations_bytes : List ℕ → List ℕ
locations_bytes [] = []
locations_bytes (v ∷ vs) = dash ∷ (digits 6 v ++ locations_bytes vs)

-- `+TTTT-JJJHHMM-`
unfoldable pub times_bytes : ℕ → ℕ → ℕ → ℕ → List ℕ
times_bytes period day hour minute = plus ∷ (tttt period ++ (dash ∷ (jjjhhmm day hour minute ++ (dash ∷ []))))

-- `ZCZC-ORG-EEE-PSSCCC+TTTT-JJJHHMM-`
unfoldable pub body_bytes : Body → List ℕ
body_bytes b =
    bytes "ZCZC-" ++ (originator_bytes b.originator ++ (dash ∷ (b.event ++
    (locations_bytes (take b.count b.locations) ++
    times_bytes b.period b.day b.hour b.minute))))

-- ---- which bytes are of this form, and what they say

-- `ZCZC-ORG-EEE`
abbrev pub head_tests : List ℕ → List Bool
head_tests s = stands (bytes "ZCZC-") s 0 ∷ is_known (originator_of (part s 5 3)) ∷ eqb (byte_at s 8) dash ∷ event_ok (part s 9 3) ∷ []

unfoldable pub head_form : List ℕ → Bool
head_form s = every holds (head_tests s)

unfoldable pub head_read : List ℕ → Option Originator
head_read s = pick (head_form s) (originator_of (part s 5 3)) None

-- n locations from index at, each a dash and six digits
unfoldable pub locations_form : ℕ → List ℕ → ℕ → Bool
locations_form zero s at = true
locations_form (suc n) s at = every holds (eqb (byte_at s at) dash ∷ all_digits (part s (at + 1) 6) ∷ locations_form n s (at + 7) ∷ [])

unfoldable pub locations_of : ℕ → List ℕ → ℕ → List ℕ
locations_of zero s at = []
locations_of (suc n) s at = value (part s (at + 1) 6) ∷ locations_of n s (at + 7)

unfoldable pub locations_read : ℕ → List ℕ → ℕ → Option (List ℕ)
locations_read n s at = pick (locations_form n s at) (Some (padded (locations_of n s at))) None

-- `+TTTT` at the start of t: TTTT 0015, 0030, 0045, or hours 01 to 99 with minutes 00 or 30
abbrev pub period_in : List ℕ → ℕ
period_in t = value (part t 1 2) * 60 + value (part t 3 2)

abbrev pub period_tests : List ℕ → List Bool
period_tests t = eqb (byte_at t 0) plus ∷ in_range 0 99 (part t 1 2) ∷ in_range 0 59 (part t 3 2) ∷ is_period (period_in t) ∷ []

unfoldable pub period_form : List ℕ → Bool
period_form t = every holds (period_tests t)

unfoldable pub period_read : List ℕ → Option ℕ
period_read t = pick (period_form t) (Some (period_in t)) None

-- `-JJJHHMM-` behind it: day 001 to 366, time 0000 to 2359 with minutes to 59
abbrev pub day_in : List ℕ → ℕ
day_in t = value (part t 6 3)

abbrev pub hour_in : List ℕ → ℕ
hour_in t = value (part t 9 2)

abbrev pub minute_in : List ℕ → ℕ
minute_in t = value (part t 11 2)

abbrev pub time_form_tests : List ℕ → List Bool
time_form_tests t = eqb (byte_at t 5) dash ∷ in_range 1 366 (part t 6 3) ∷ in_range 0 23 (part t 9 2) ∷ in_range 0 59 (part t 11 2) ∷ eqb (byte_at t 13) dash ∷ []

unfoldable pub time_form : List ℕ → Bool
time_form t = every holds (time_form_tests t)

unfoldable pub time_read : List ℕ → Option Time
time_read t = pick (time_form t) (Some (record { day = day_in t; hour = hour_in t; minute = minute_in t })) None

-- ---- the whole

-- how many locations n bytes have: 26 bytes stand round them, and each takes 7
abbrev pub count_in : ℕ → ℕ
count_in n = (n - 26) / 7

-- with 1 to 31 locations
abbrev pub length_tests : ℕ → List Bool
length_tests n = between 1 31 (count_in n) ∷ eqb n (26 + 7 * count_in n) ∷ []

unfoldable pub length_form : ℕ → Bool
length_form n = every holds (length_tests n)

abbrev pub location_count : List ℕ → ℕ
location_count s = count_in (length s)

-- `+TTTT-JJJHHMM-`, behind the locations
abbrev pub times_part : List ℕ → List ℕ
times_part s = part s (12 + 7 * location_count s) 14

abbrev pub body_form_tests : List ℕ → List Bool
body_form_tests s = length_form (length s) ∷ head_form s ∷ locations_form (location_count s) s 12 ∷ period_form (times_part s) ∷ time_form (times_part s) ∷ []

unfoldable pub body_form : List ℕ → Bool
body_form s = every holds (body_form_tests s)

unfoldable pub body_of : List ℕ → Body
body_of s = record {
  originator = known (originator_of (part s 5 3));
  event = part s 9 3;
  count = location_count s;
  locations = padded (locations_of (location_count s) s 12);
  period = period_in (times_part s);
  day = day_in (times_part s);
  hour = hour_in (times_part s);
  minute = minute_in (times_part s);
}

-- the body, where the bytes are one
unfoldable pub body_read : List ℕ → Option Body
body_read s = pick (body_form s) (Some (body_of s)) None

-- a refusal returns its number, 17, and zeros elsewhere
abbrev pub body_refusal : BodyRead
body_refusal = record { number = 17; body = no_body }

unfoldable pub read_body_of : List ℕ → BodyRead
read_body_of s = pick (body_form s) (record { number = 0; body = body_of s }) body_refusal
