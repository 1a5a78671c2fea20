-- A date and a second of 2000 to 2099 written in UTC: their instant is that of the year, day and second, and its stamp is what they show.
use mathlib.Core.Path.{◌≡◌, ap, ◌∙◌}
use Prim.Native.Nat.{ℕ, ◌+◌, ◌-◌, ◌*◌, ◌/◌, ◌%◌, ◌≤◌, ◌<◌}
use native.Mathlib.Omega.{arith}
use borrow.Author.Tests.{lt-ltb}
use lib.IntN.{pos, +ℤ_idr}
use Rattle.clock.specs.Calendar.{leap, month_days, days_before, days_to, day_number}
use Rattle.clock.specs.Time.{span, since2000, utc, in_span}
use Rattle.clock.specs.Stamp.{stamp_of, instant_of}
use Rattle.std.specs.Prelude.{Some}
use Rattle.clock.proofs.Calendar.{day-in-year, days-to-low, days-to-2000}
use Rattle.clock.proofs.Signed.{minus}
use Rattle.clock.proofs.Stamps.{Came, back-and-there}

module _ (y m d s : ℕ) (a : 2000 ≤ y) (b : y ≤ 2099) (h : 1 ≤ m) (k : m ≤ 12) (e : 1 ≤ d) (f : d ≤ month_days (leap y) m) (l : s < 86400) where
  -- the day of the year
  abbrev pub ordinal : ℕ
  ordinal = days_before (leap y) m + d

  came : Came (instant_of y ordinal s) y ordinal s
  came = back-and-there y ordinal s a b (omega arith) (day-in-year y m d h k f) l

  in-utc : utc (since2000 (day_number y m d) s) (pos 0) ≡ pos (instant_of y ordinal s)
  unfolding utc since2000 day_number instant_of
  in-utc =
      let lo = days-to-low y a in
      +ℤ_idr _
      ∙ minus ((days_to y + days_before (leap y) m + (d - 1)) * 86400 + s) (days_to 2000 * 86400) (omega (arith, days-to-2000))
      ∙ ap pos (omega (arith, days-to-2000))

  pub shown : in_span (utc (since2000 (day_number y m d) s) (pos 0)) ≡ Some (instant_of y ordinal s)
  unfolding in_span
  shown = ap in_span in-utc ∙ rw (lt-ltb (instant_of y ordinal s) span came.inside)

  pub shown-stamp : stamp_of (instant_of y ordinal s) ≡ record { year = y; day = ordinal; hour = s / 3600; minute = s % 3600 / 60 }
  unfolding stamp_of
  shown-stamp =
      let n = instant_of y ordinal s in
      let q : n % 3600 ≡ s % 3600 = omega (arith, came.second) in
      rw (came.year, came.day, came.second, q)
