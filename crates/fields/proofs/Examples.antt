-- References by example, computed: one group, two of them, and what is none.
use Prim.Native.String.{String}
use mathlib.Core.Path.{◌≡◌, refl}
use mathlib.Core.Bool.{Bool, true, false}
use Rattle.octets.specs.Bytes.{every, between, one_of, is_digit, is_visible}
use Rattle.octets.specs.Digits.{value_from, in_range}
use Rattle.octets.specs.Text.{bytes}
use Rattle.clock.specs.Calendar.{divides, leap, year_days, months, sum, month_days, days_before, days_to, day_number}
use Rattle.clock.specs.Time.{is_sign, signed, since2000, utc, in_span, time_of}
use Rattle.fields.specs.Fields.{is_identity_byte, identity_ok}
use Rattle.fields.specs.References.{up_to, behind, words}
use Rattle.fields.specs.WorkingFields.{group_ok, references_ok}

abbrev refers : String → Bool
refers v = references_ok (bytes v)

pub record Examples : Type 0 where
  pub one : refers "b@c,B1,2010-04-05T14:00:30-04:00" ≡ true
  pub two : refers "b@c,B1,2010-04-05T14:00:30-04:00 b@c,B2,2010-04-05T14:01:00+00:00" ≡ true
  pub none : refers "" ≡ false
  pub space-inside : refers "b@c, B1,2010-04-05T14:00:30-04:00" ≡ false
  pub no-offset : refers "b@c,B1,2010-04-05T18:00:30Z" ≡ false

pub examples : Examples
unfolding references_ok words group_ok up_to behind identity_ok is_identity_byte bytes time_of in_range between every one_of is_digit is_visible value_from is_sign signed utc since2000 in_span day_number days_to days_before month_days months sum year_days leap divides
examples = record { one = refl; two = refl; none = refl; space-inside = refl; no-offset = refl }
