-- A time has digits and signs alone, all of them characters of 1 to 127, which a copy keeps.
--     tests-kept, time-kept     of what passes the tests of a time, and of what has an instant
use mathlib.Core.Path.{◌≡◌, refl, sym, ap, ◌∙◌}
use mathlib.Core.List.{List}
use mathlib.Core.Bool.{Bool, true, false, true≢false}
use Prim.Native.Nat.{ℕ, ◌+◌, ◌≤◌, ◌<◌}
use native.Mathlib.Omega.{arith}
use borrow.Author.Tests.{eqb-true}
use lib.Dec.{eqb}
use lib.ListN.{length, drop, drop_of_length-le}
use Rattle.octets.specs.Bytes.{every, holds, between, one_of, byte_at, part, is_digit}
use Rattle.octets.specs.Digits.{in_range}
use Rattle.octets.proofs.Tests.{each_of, every-none, every-step, every_append, between_is, or_elim, passed_over}
use Rattle.octets.proofs.Everys.{every-weaker}
use Rattle.octets.proofs.Numbers.{digit_low, digit-high, range-digits}
use Rattle.octets.proofs.Parts.{cut, tail_step}
use Rattle.clock.specs.Time.{date_tests, minutes_tests, second_tests, is_sign, zone_tests, time_tests, time_of, is_time}

abbrev is_kept : ℕ → Bool
is_kept c = between 1 127 c

kept-is : (c : ℕ) → 1 ≤ c → c ≤ 127 → is_kept c ≡ true
kept-is c l h = between_is 1 127 c l h

digit-kept : (c : ℕ) → is_digit c ≡ true → is_kept c ≡ true
digit-kept c h = kept-is c (omega (arith, digit_low c h)) (omega (arith, digit-high c h))

sign_kept : (c : ℕ) → is_sign c ≡ true → is_kept c ≡ true
unfolding is_sign one_of
sign_kept c h = or_elim (eqb c 43) _ _ h (λ e. rw (eqb-true c 43 e) (kept-is 43 (omega arith) (omega arith)))
    (λ k. or_elim (eqb c 45) _ _ k (λ e. rw (eqb-true c 45 e) (kept-is 45 (omega arith) (omega arith))) (λ z. absurd (true≢false (sym z))))

-- ---- from the end of a time to its beginning

module _ (t : List ℕ) (long : length t ≡ 25) where
  -- all from index i on are such
  abbrev Kept : ℕ → Type 0
  Kept i = every is_kept (drop i t) ≡ true

  run_on : (lo hi i n j : ℕ) → in_range lo hi (part t i n) ≡ true → i + n ≡ j → Kept j → Kept i
  run_on lo hi i n j h e p =
      let d = every-weaker is_digit is_kept digit-kept (part t i n) (range-digits lo hi (part t i n) h) in
      let q : Kept (i + n) = rw e p in
      ap (every is_kept) (cut t i n) ∙ every_append is_kept (part t i n) (drop (i + n) t) d q

  one_on_lem : (i j : ℕ) → is_kept (byte_at t i) ≡ true → i < 25 → i + 1 ≡ j → Kept j → Kept i
  one_on_lem i j h l e p =
      let q : Kept (i + 1) = rw e p in
      ap (every is_kept) (tail_step t i (omega arith)) ∙ every-step is_kept (byte_at t i) (drop (i + 1) t) h ∙ q

  sign-on : (i j c : ℕ) → eqb (byte_at t i) c ≡ true → 1 ≤ c → c ≤ 127 → i < 25 → i + 1 ≡ j → Kept j → Kept i
  sign-on i j c h a b = one_on_lem i j (rw (eqb-true (byte_at t i) c h) (kept-is c a b))

  minutes-on : (i most j : ℕ) → every holds (minutes_tests t i most) ≡ true → i + 5 ≡ j → i < 23 → Kept j → Kept i
  minutes-on i most j h e l p =
      let a = each_of (minutes_tests t i most) h in
      run_on 0 most i 2 (i + 2) a.0 refl
      (sign-on (i + 2) (i + 3) 58 a.1.0 (omega arith) (omega arith) (omega arith) (omega arith)
      (run_on 0 59 (i + 3) 2 j a.1.1.0 (omega arith) p))

  date-on : every holds (date_tests t) ≡ true → Kept 10 → Kept 0
  date-on h p =
      let a = each_of (date_tests t) h in
      run_on 0 9999 0 4 4 a.0 refl
      (sign-on 4 5 45 a.1.0 (omega arith) (omega arith) (omega arith) refl
      (run_on 1 12 5 2 7 a.1.1.0 refl
      (sign-on 7 8 45 a.1.1.1.0 (omega arith) (omega arith) (omega arith) refl
      (run_on 1 _ 8 2 10 a.1.1.1.1.0 refl p))))

  second-on : every holds (second_tests t) ≡ true → Kept 19 → Kept 10
  second-on h p =
      let a = each_of (second_tests t) h in
      sign-on 10 11 84 a.0 (omega arith) (omega arith) (omega arith) refl
      (minutes-on 11 23 16 a.1.0 refl (omega arith)
      (sign-on 16 17 58 a.1.1.0 (omega arith) (omega arith) (omega arith) refl
      (run_on 0 59 17 2 19 a.1.1.1.0 refl p)))

  zone-on : every holds (zone_tests t) ≡ true → Kept 25 → Kept 19
  zone-on h p =
      let a = each_of (zone_tests t) h in
      one_on_lem 19 20 (sign_kept (byte_at t 19) a.0) (omega arith) refl (minutes-on 20 14 25 a.1.0 refl (omega arith) p)

  end_kept : Kept 25
  end_kept = let n : length t ≤ 25 = omega arith in ap (every is_kept) (drop_of_length-le t n) ∙ every-none is_kept

pub tests-kept : (t : List ℕ) → every holds (time_tests t) ≡ true → every (between 1 127) t ≡ true
tests-kept t h =
    let a = each_of (time_tests t) h in
    let l = eqb-true (length t) 25 a.0 in
    date-on t l a.1.0 (second-on t l a.1.1.0 (zone-on t l a.1.1.1.0 (end_kept t l)))

pub time-kept : (t : List ℕ) → is_time (time_of t) ≡ true → every (between 1 127) t ≡ true
unfolding time_of
time-kept t h = go (every holds (time_tests t)) refl
  where
    go : (b : Bool) → every holds (time_tests t) ≡ b → every (between 1 127) t ≡ true
    go true e = tests-kept t e
    go false e = absurd (true≢false (sym h ∙ ap is_time (passed_over _ _ _ e)))
