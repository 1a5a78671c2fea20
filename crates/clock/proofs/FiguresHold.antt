-- The table of document 01 holds: each row computes, and no date is refused whatever stands behind it.
use mathlib.Core.Path.{refl}
use mathlib.Core.List.{◌++◌}
use Rattle.octets.specs.Bytes.{every, between, one_of, is_digit}
use Rattle.octets.specs.Digits.{value_from, digits, in_range}
use Rattle.octets.specs.Text.{bytes}
use Rattle.clock.specs.Calendar.{divides, leap, year_days, months, sum, month_days, days_before, days_to, day_number}
use Rattle.clock.specs.Time.{is_sign, signed, since2000, utc, in_span, time_of}
use Rattle.clock.specs.Period.{up, at_most, period_of}
use Rattle.clock.specs.Stamp.{begun, year_of, day_of, stamp_of}
use Rattle.clock.specs.Written.{tttt, jjjhhmm}
use Rattle.clock.specs.Figures.{stamp_written, FigureHolds, AllFigures, figures}
use Rattle.clock.proofs.Times.{time-no}

pub figures-hold : AllFigures figures
unfolding figures AllFigures FigureHolds stamp_written period_of up at_most tttt jjjhhmm digits bytes time_of in_range between every one_of is_digit value_from is_sign signed utc since2000 in_span day_number days_to days_before month_days months sum year_days leap divides stamp_of year_of day_of begun
figures-hold = (refl, (refl, (refl, (refl, (refl, (refl, (refl, (refl, (refl, (refl, (refl, ((λ rest. time-no 1 (bytes "2011-02-29" ++ rest) refl), tt))))))))))))
