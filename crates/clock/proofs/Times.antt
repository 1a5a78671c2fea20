-- The instant of a time, from its pieces.
--     instant-low     the instant of a time is one of 2000 to 2099
use mathlib.Core.Path.{◌≡◌, refl, sym, ap, ap₂, ◌∙◌}
use mathlib.Core.List.{List}
use mathlib.Core.Bool.{Bool, true, false}
use mathlib.Core.Logic.{◌≢◌}
use Prim.Native.Nat.{ℕ, ◌+◌, ◌*◌, ◌≤◌, ◌<◌, ◌^◌}
use native.Mathlib.Omega.{arith}
use borrow.Author.Tests.{eq-eqb, ltb-true, le-ltb}
use lib.ListN.{length, get_or}
use lib.IntN.{ℤ, pos, negsuc, nat_abs, ◌*ℤ◌}
use lib.Signed.{mag}
use Rattle.std.specs.Bool.{then_some}
use Rattle.std.specs.Int.{FitsUnsignedBits}
use Rattle.std.specs.Array.{IsWholeChunk}
use Rattle.std.specs.Result.{MatchResult, OkIff, result_ok}
use Rattle.std.specs.Prelude.{Result, Ok, Err}
use lib.Dec.{ltb, eqb}
use mir.Syntax.{w64}
use mir.Val.{to_z, of_z}
use Rattle.octets.specs.Bytes.{pick, every, holds, byte_at}
use Rattle.octets.proofs.Tests.{every_of, one-fails, picked, passed_over, either_way}
use Rattle.clock.specs.Calendar.{days_to}
use Rattle.clock.specs.Time.{reads, date_tests, date_of, minutes_of, second_tests, second_of, zone_tests, signed, offset, since2000, local_time, utc, span, in_span, time_tests, time_of, instant_in}
use Rattle.std.specs.Prelude.{Option, Some, None}
use Rattle.clock.proofs.Calendar.{days-to-2000}
use Rattle.clock.proofs.Signed.{mag-neg, mag-sub, mag-sixty, back}
use Rattle.clock.proofs.Pieces.{read_is, date-under, second-under, zone-under}

pub time-no : (i : ℕ) (t : List ℕ) → get_or (time_tests t) i true ≡ false → time_of t ≡ None
unfolding time_of
time-no i t h = passed_over _ _ _ (one-fails i (time_tests t) h)

-- ---- a slice lent as an array of n bytes: r is what the conversion of t gives

abbrev pub Lent : {A E : Type 0} → Result A E → (A → List ℕ) → List ℕ → ℕ → Type 0
Lent r now t n = MatchResult r (λ y. IsWholeChunk t (now y) n) (λ _. length t ≢ n)

pub lent-not : {A E : Type 0} (r : Result A E) (now : A → List ℕ) (t : List ℕ) (n : ℕ) → Lent r now t n → None ≡ result_ok r → length t ≢ n
lent-not (Ok y) now t n h e = let z : ◌≡◌ {A = ℕ} 0 1 = cc in absurd (omega arith)
lent-not (Err d) now t n h e = h

pub lent-is : {A E : Type 0} (r : Result A E) (now : A → List ℕ) (t : List ℕ) (y : A) (n : ℕ) → Lent r now t n → Some y ≡ result_ok r → (length t ≡ n) × (now y ≡ t)
lent-is (Ok x) now t y n h e = let s = h.same in let q : y ≡ x = cc in (h.long, ap now q ∙ s)
lent-is (Err d) now t y n h e = let z : ◌≡◌ {A = ℕ} 0 1 = cc in absurd (omega arith)

-- ---- in 2000 to 2099 or not: r is the conversion that the code tries, to 32 bits

pub span-not : {E : Type 0} (z z' : ℤ) (r : Result ℕ E) → z' ≡ z → OkIff r (FitsUnsignedBits 32 z') (nat_abs z') → None ≡ result_ok r → in_span z ≡ None
unfolding in_span
span-not (pos n) z' (Ok x) e k h = let q : ◌≡◌ {A = ℕ} 0 1 = cc in absurd (omega arith)
span-not (pos n) z' (Err d) e k h = let l : n < 2 ^ 32 → ⊥ = rw e at k in rw (le-ltb n span (omega arith))
span-not (negsuc n) z' r e k h = refl

pick-some : (b : Bool) (n : ℕ) → pick b (Some n) None ≡ then_some b n
pick-some true n = refl
pick-some false n = refl

pub span-is : {E : Type 0} (z z' : ℤ) (r : Result ℕ E) (n : ℕ) → z' ≡ z → OkIff r (FitsUnsignedBits 32 z') (nat_abs z') → Some n ≡ result_ok r → in_span z ≡ then_some (ltb n span) n
unfolding in_span
span-is (pos m) z' (Ok x) n e k h = let q : x ≡ m = k.1 ∙ ap nat_abs e in let p : n ≡ x = cc in rw (p, q) (pick-some (ltb m span) m)
span-is (pos m) z' (Err d) n e k h = let q : ◌≡◌ {A = ℕ} 0 1 = cc in absurd (omega arith)
span-is (negsuc m) z' (Ok x) n e k h = absurd (rw e at k.0)
span-is (negsuc m) z' (Err d) n e k h = let q : ◌≡◌ {A = ℕ} 0 1 = cc in absurd (omega arith)

within_low : (z : ℤ) → instant_in (in_span z) < span
unfolding in_span
within_low (pos m) = either_way (λ (x : Option ℕ). instant_in x < span) (ltb m span) _ _ (λ e. ltb-true m span e) (λ e. omega arith)
within_low (negsuc m) = omega arith

pub instant-low : (t : List ℕ) → instant_in (time_of t) < span
unfolding time_of
instant-low t = either_way (λ (x : Option ℕ). instant_in x < span) (every holds (time_tests t)) _ _ (λ e. within_low (utc (local_time t) (offset t))) (λ e. omega arith)

-- ---- from the pieces that the code has read: days, second of the day, minutes behind the sign

signed-most : (b m : ℕ) → mag (signed b m) ≤ m + 1
unfolding signed
signed-most b m = either_way (λ (z : ℤ). mag z ≤ m + 1) (eqb b 45) _ _ (λ e. mag-neg (pos m)) (λ e. omega arith)

signed_back : (z : ℤ) (b m : ℕ) → z ≡ signed b m → m ≤ 899 → to_z w64 (of_z w64 z) ≡ signed b m
signed_back z b m e h = rw e (back (signed b m) (omega (arith, signed-most b m)))

since-most : (d s : ℕ) → d ≤ 4000000 → s < 86400 → mag (since2000 d s) < 500000000000
unfolding since2000
since-most d s h k = omega (arith, mag-sub (pos (d * 86400 + s)) (pos (days_to 2000 * 86400)), days-to-2000)

pub record Parts (t : List ℕ) (d s m : ℕ) : Type 0 where
  pub long : length t ≡ 25
  pub date-read : reads (date_tests t) (date_of t) ≡ Some d
  pub second-read : reads (second_tests t) (second_of t) ≡ Some s
  pub zone-read : reads (zone_tests t) (minutes_of t 20) ≡ Some m

module _ {t : List ℕ} {d s m : ℕ} (g : Parts t d s m) where
  pub parts-fit : (d ≤ 4000000) × (s < 86400)
  parts-fit = (omega (arith, date-under t d g.date-read), second-under t s g.second-read)

  local-most : mag (since2000 d s) < 500000000000
  local-most = since-most d s parts-fit.0 parts-fit.1

  pub behind-most : m ≤ 899
  behind-most = zone-under t m g.zone-read

  utc-most : mag (utc (since2000 d s) (signed (byte_at t 19) m)) < 1000000000000
  unfolding utc
  utc-most = omega (arith, local-most, signed-most (byte_at t 19) m, behind-most, mag-sub (since2000 d s) (signed (byte_at t 19) m *ℤ pos 60), mag-sixty (signed (byte_at t 19) m))

  local_back : (a : ℤ) → a ≡ since2000 d s → to_z w64 (of_z w64 a) ≡ since2000 d s
  local_back a e = rw e (back (since2000 d s) (omega (arith, local-most)))

  -- what is asked of the two before they are subtracted
  pub utc-fits : (a z : ℤ) (b k : ℕ) → a ≡ since2000 d s → z ≡ signed b k → k ≤ 899 → (mag (to_z w64 (of_z w64 a)) < 1000000000000) × (mag (to_z w64 (of_z w64 z)) < 1000)
  utc-fits a z b k e f h = (rw (local_back a e) (omega (arith, local-most)), rw (signed_back z b k f h) (omega (arith, signed-most b k)))

  time-yes : time_of t ≡ in_span (utc (since2000 d s) (signed (byte_at t 19) m))
  unfolding time_of
  time-yes =
      let p = read_is (date_tests t) (date_of t) d g.date-read in
      let q = read_is (second_tests t) (second_of t) s g.second-read in
      let r = read_is (zone_tests t) (minutes_of t 20) m g.zone-read in
      picked _ _ _ (every_of (time_tests t) (eq-eqb _ _ g.long, (p.0, (q.0, (r.0, tt)))))
      ∙ rw (p.1, q.1, r.1)

  -- the instant that the code has made of local time a and offset z
  pub time-made : (a b z : ℤ) (x : Option ℕ) → a ≡ since2000 d s → z ≡ signed (byte_at t 19) m → b ≡ utc (to_z w64 (of_z w64 a)) (to_z w64 (of_z w64 z)) → x ≡ in_span (to_z w64 (of_z w64 b)) → x ≡ time_of t
  time-made a b z x e f i h =
      let u = utc (since2000 d s) (signed (byte_at t 19) m) in
      let j : b ≡ u = i ∙ ap₂ utc (local_back a e) (signed_back z (byte_at t 19) m f behind-most) in
      let k : to_z w64 (of_z w64 b) ≡ u = rw j (back u (omega (arith, utc-most))) in
      h ∙ ap in_span k ∙ sym time-yes
