-- `+TTTT-JJJHHMM-`, there and back.
use Prim.Native.Nat.{ℕ, ◌+◌, ◌*◌, ◌/◌, ◌%◌, ◌≤◌, ◌<◌}
use mathlib.Core.Bool.{true}
use mathlib.Core.List.{List, [], ◌∷◌, ◌++◌, append_assoc}
use mathlib.Core.Path.{◌≡◌, refl, sym, ap, ap₂, ◌∙◌}
use native.Mathlib.Omega.{arith}
use lib.Dec.{eqb}
use lib.ListN.{length, drop, drop_of_length-le}
use borrow.Author.Tests.{eqb-true}
use Rattle.clock.specs.Written.{tttt, jjjhhmm}
use Rattle.header.specs.Body.{times_bytes, period_in, period_tests, period_form, day_in, hour_in, minute_in, time_form_tests, time_form}
use Rattle.octets.proofs.Numbers.{value-digits, digits_value, range-digits, range-high, range_back}
use Rattle.octets.proofs.Parts.{length_part, cut, tail_step}
use Rattle.octets.proofs.Tests.{Each, each_of, every_of}
use Rattle.octets.specs.Bytes.{byte_at, part}
use Rattle.octets.specs.Digits.{value, digits, in_range}
use Rattle.parts.proofs.Periods.{period-high}
use Rattle.parts.specs.Parts.{is_period}

-- ---- reading what was written

module _ (period day hour minute : ℕ) (ok : is_period period ≡ true) (first : 1 ≤ day) (last : day ≤ 366) (h : hour ≤ 23) (m : minute ≤ 59) where
  pub period-back : period_in (times_bytes period day hour minute) ≡ period
  unfolding times_bytes tttt jjjhhmm digits
  period-back =
      let k = period-high period ok in
      ap₂ (λ (a b : ℕ). a * 60 + b) (value-digits 2 (period / 60) (omega arith)) (value-digits 2 (period % 60) (omega arith)) ∙ omega arith

  pub period-form : period_form (times_bytes period day hour minute) ≡ true
  unfolding period_form times_bytes tttt jjjhhmm digits
  period-form =
      let k = period-high period ok in
      every_of (period_tests (times_bytes period day hour minute))
      (refl, (range_back 0 99 2 (period / 60) (omega arith) (omega arith) (omega arith), (range_back 0 59 2 (period % 60) (omega arith) (omega arith) (omega arith), (ap is_period period-back ∙ ok, tt))))

  pub time-form : time_form (times_bytes period day hour minute) ≡ true
  unfolding time_form times_bytes tttt jjjhhmm digits
  time-form =
      every_of (time_form_tests (times_bytes period day hour minute))
      (refl, (range_back 1 366 3 day (omega arith) first last, (range_back 0 23 2 hour (omega arith) (omega arith) h, (range_back 0 59 2 minute (omega arith) (omega arith) m, (refl, tt)))))

  pub day-back : day_in (times_bytes period day hour minute) ≡ day
  unfolding times_bytes tttt jjjhhmm digits
  day-back = value-digits 3 day (omega arith)

  pub hour-back : hour_in (times_bytes period day hour minute) ≡ hour
  unfolding times_bytes tttt jjjhhmm digits
  hour-back = value-digits 2 hour (omega arith)

  pub minute-back : minute_in (times_bytes period day hour minute) ≡ minute
  unfolding times_bytes tttt jjjhhmm digits
  minute-back = value-digits 2 minute (omega arith)

-- ---- writing what was read

module _ (t : List ℕ) (long : length t ≡ 14) (okₚ : period_form t ≡ true) (okₜ : time_form t ≡ true) where
  pub of-period : Each (period_tests t)
  unfolding period_form
  of-period = each_of (period_tests t) okₚ

  pub of-time : Each (time_form_tests t)
  unfolding time_form
  of-time = each_of (time_form_tests t) okₜ

  -- a byte, and a run of digits, in front of what follows
  byte : (at b : ℕ) (r : List ℕ) → at < 14 → eqb (byte_at t at) b ≡ true → drop (at + 1) t ≡ r → drop at t ≡ b ∷ r
  byte at b r h q g = tail_step t at (omega (arith, long)) ∙ ap₂ (λ (x : ℕ) (y : List ℕ). x ∷ y) (eqb-true (byte_at t at) b q) g

  run : (lo hi at n v : ℕ) (r : List ℕ) → at + n ≤ 14 → in_range lo hi (part t at n) ≡ true → v ≡ value (part t at n) → drop (at + n) t ≡ r → drop at t ≡ digits n v ++ r
  run lo hi at n v r h q w g =
      let ds = digits_value n (part t at n) (length_part t at n (omega (arith, long))) (range-digits lo hi (part t at n) q) in
      cut t at n ∙ ap₂ (λ (x y : List ℕ). x ++ y) (sym (ap (digits n) w ∙ ds)) g

  pub times-forth : times_bytes (period_in t) (day_in t) (hour_in t) (minute_in t) ≡ t
  unfolding times_bytes tttt jjjhhmm
  times-forth =
      let p = of-period in
      let k = of-time in
      let high = range-high 0 59 (part t 3 2) p.1.1.0 in
      let g₁₄ : drop 14 t ≡ [] = drop_of_length-le t {i = 14} (omega (arith, long)) in
      let g₁₃ = byte 13 45 [] (omega arith) k.1.1.1.1.0 g₁₄ in
      let g₁₁ = run 0 59 11 2 (minute_in t) _ (omega arith) k.1.1.1.0 refl g₁₃ in
      let g₉ = run 0 23 9 2 (hour_in t) _ (omega arith) k.1.1.0 refl g₁₁ in
      let g₆ = run 1 366 6 3 (day_in t) _ (omega arith) k.1.0 refl g₉ in
      let g₅ = byte 5 45 _ (omega arith) k.0 g₆ in
      let g₃ = run 0 59 3 2 (period_in t % 60) _ (omega arith) p.1.1.0 (omega arith) g₅ in
      let g₁ = run 0 99 1 2 (period_in t / 60) _ (omega arith) p.1.0 (omega arith) g₃ in
      let g₀ = byte 0 43 _ (omega arith) p.0 g₁ in
      simp append_assoc (sym g₀)
