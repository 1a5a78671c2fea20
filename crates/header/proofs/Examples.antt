-- Worked examples of the definitions.
use mathlib.Core.List.{◌∷◌}
use mathlib.Core.Path.{◌≡◌, refl}
use lib.ListN.{replicate}
use Rattle.clock.specs.Written.{tttt, jjjhhmm}
use Rattle.header.specs.Body.{locations_bytes, times_bytes, body_bytes, head_form, locations_form, locations_of, period_form, time_form, length_form, body_form, body_of}
use Rattle.header.specs.Header.{header_bytes, header_form, parts_in, refusal, read_of, write_number}
use Rattle.octets.specs.Bytes.{every, between, same, is_digit, is_capital}
use Rattle.octets.specs.Digits.{value_from, digits, in_range}
use Rattle.octets.specs.Text.{bytes}
use Rattle.parts.specs.WorkingAsked.{sixes, sixes_ok, asked_ok, asked_body, asked_station, asked_parts}
use Rattle.parts.specs.Originator.{originator_bytes, originator_of, numbered}
use Rattle.parts.specs.Parts.{event_ok, is_period, body_ok, is_station_byte, station_ok}
use Rattle.parts.specs.declared.Originator.TheVariants.{Civ}
use Rattle.parts.specs.declared.Parts.{Parts}

abbrev sample : Parts
sample = record {
  body = record { originator = Civ; event = bytes "CEM"; count = 1; locations = 24031 ∷ replicate 30 0; period = 45; day = 95; hour = 18; minute = 0 };
  station = bytes "BENCH/01";
}

-- the sample of document 01
sample-read : read_of (bytes "ZCZC-CIV-CEM-024031+0045-0951800-BENCH/01-") ≡ record { number = 0; parts = sample }
unfolding read_of header_form parts_in body_form body_of length_form head_form locations_form locations_of period_form time_form originator_of originator_bytes event_ok station_ok is_station_byte is_period in_range is_digit is_capital between every same value_from bytes
sample-read = refl

sample-written : header_bytes sample ≡ bytes "ZCZC-CIV-CEM-024031+0045-0951800-BENCH/01-"
unfolding header_bytes body_bytes originator_bytes locations_bytes times_bytes tttt jjjhhmm digits bytes
sample-written = refl

-- as a caller over numbers and bytes asks for it
sample-asked : asked_parts 4 (bytes "CEM") (bytes "024031") 45 95 18 0 (bytes "BENCH/01") ≡ sample
unfolding asked_parts asked_body asked_ok asked_station sixes_ok sixes numbered every is_digit between value_from bytes
sample-asked = refl

-- day 366 is taken and day 367 is not; nor is an originator that is none of the four, or a period that TTTT does not have
last-day : (read_of (bytes "ZCZC-CIV-CEM-024031+0045-3662359-BENCH/01-")).number ≡ 0
unfolding read_of header_form parts_in body_form body_of length_form head_form locations_form locations_of period_form time_form originator_of originator_bytes event_ok station_ok is_station_byte is_period in_range is_digit is_capital between every same value_from bytes
last-day = refl

no-day : read_of (bytes "ZCZC-CIV-CEM-024031+0045-3672359-BENCH/01-") ≡ refusal
unfolding read_of header_form parts_in body_form body_of length_form head_form locations_form locations_of period_form time_form originator_of originator_bytes event_ok station_ok is_station_byte is_period in_range is_digit is_capital between every same value_from bytes
no-day = refl

no-originator : read_of (bytes "ZCZC-EAN-CEM-024031+0045-0951800-BENCH/01-") ≡ refusal
unfolding read_of header_form parts_in body_form body_of length_form head_form locations_form locations_of period_form time_form originator_of originator_bytes event_ok station_ok is_station_byte is_period in_range is_digit is_capital between every same value_from bytes
no-originator = refl

no-period : (read_of (bytes "ZCZC-CIV-CEM-024031+0015-0951800-BENCH/01-")).number ≡ 0 × read_of (bytes "ZCZC-CIV-CEM-024031+0115-0951800-BENCH/01-") ≡ refusal
unfolding read_of header_form parts_in body_form body_of length_form head_form locations_form locations_of period_form time_form originator_of originator_bytes event_ok station_ok is_station_byte is_period in_range is_digit is_capital between every same value_from bytes
no-period = (refl, refl)

-- a station with a plus is unreadable, and writing it answers 3, whatever the other parts are; a short output answers 2 before that
no-station : read_of (bytes "ZCZC-CIV-CEM-024031+0045-0951800-BENCH+01-") ≡ refusal
unfolding read_of header_form parts_in body_form body_of length_form head_form locations_form locations_of period_form time_form originator_of originator_bytes event_ok station_ok is_station_byte is_period in_range is_digit is_capital between every same value_from bytes
no-station = refl

bad-station : write_number 252 (asked_parts 5 (bytes "CEM") (bytes "024031") 45 95 18 0 (bytes "BENCH-01")) ≡ 3
unfolding write_number asked_parts asked_station station_ok is_station_byte between every bytes
bad-station = refl

short-output : write_number 251 (asked_parts 5 (bytes "CEM") (bytes "024031") 45 95 18 0 (bytes "BENCH-01")) ≡ 2
unfolding write_number
short-output = refl

-- an originator without a number, and a location of seven digits, answer 17
bad-originator : write_number 252 (asked_parts 5 (bytes "CEM") (bytes "024031") 45 95 18 0 (bytes "BENCH/01")) ≡ 17
unfolding write_number asked_parts asked_station asked_body asked_ok numbered body_ok event_ok station_ok is_station_byte is_capital between every bytes
bad-originator = refl

bad-location : write_number 252 (asked_parts 4 (bytes "CEM") (bytes "0240311") 45 95 18 0 (bytes "BENCH/01")) ≡ 17
unfolding write_number asked_parts asked_station asked_body asked_ok sixes_ok numbered body_ok event_ok station_ok is_station_byte is_capital is_digit between every bytes
bad-location = refl
