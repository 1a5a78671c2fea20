-- The locations of a header, each a dash and six digits: read and put one at a time, and there and back.
--     locations-back, locations-forth     reading what was written, and writing what was read
use Prim.Native.Nat.{ℕ, zero, suc, ◌+◌, ◌-◌, ◌*◌, ◌≤◌, ◌<◌}
use mathlib.Core.Bool.{Bool, true, false}
use mathlib.Core.List.{List, [], ◌∷◌, ◌++◌, append_assoc}
use mathlib.Core.Path.{◌≡◌, refl, sym, ap, ap₂, ◌∙◌}
use native.Mathlib.Nat.{add-zero, add_assoc}
use native.Mathlib.Omega.{arith}
use lib.Dec.{eqb}
use lib.ListN.{length, take, drop}
use lib.Seq.{sets, take_at, drop_at, drop-drop, get_or-drop}
use borrow.Author.Tests.{ltb-true, eqb-true, lt-ltb, eq-eqb}
use Rattle.header.specs.Body.{locations_bytes, locations_form, locations_of, locations_read}
use Rattle.octets.proofs.Numbers.{length_digits, value-digits, digits_are, digits_value, value-below}
use Rattle.octets.proofs.Parts.{length_part, cut, tail_step}
use Rattle.octets.proofs.Runs.{behind}
use Rattle.octets.proofs.Tests.{each_of, every_of, every-step, every-none, every_first, every_rest}
use Rattle.octets.specs.Bytes.{pick, every, holds, byte_at, part}
use Rattle.octets.specs.Digits.{all_digits, value, digits}
use Rattle.parts.specs.Parts.{padded}
use Rattle.parts.specs.Parts.{is_location}
use Rattle.std.specs.Prelude.{Some, None}

-- ---- n - k of them are left where k were read

pub form-cut : (n k : ℕ) (s : List ℕ) (at : ℕ) → k < n →
    locations_form (n - k) s (at + 7 * k) ≡ every holds (eqb (byte_at s (at + 7 * k)) 45 ∷ all_digits (part s (at + 7 * k + 1) 6) ∷ locations_form (n - (k + 1)) s (at + 7 * (k + 1)) ∷ [])
unfolding locations_form
form-cut n k s at h =
    let e : n - k ≡ suc (n - (k + 1)) = omega arith in
    let f : at + 7 * k + 7 ≡ at + 7 * (k + 1) = omega arith in
    rw (e, f)

pub locations-cut : (n k : ℕ) (s : List ℕ) (at : ℕ) → k < n →
    locations_of (n - k) s (at + 7 * k) ≡ value (part s (at + 7 * k + 1) 6) ∷ locations_of (n - (k + 1)) s (at + 7 * (k + 1))
unfolding locations_of
locations-cut n k s at h =
    let e : n - k ≡ suc (n - (k + 1)) = omega arith in
    let f : at + 7 * k + 7 ≡ at + 7 * (k + 1) = omega arith in
    rw (e, f)

pub form-done : (n k : ℕ) (s : List ℕ) (at : ℕ) → n ≤ k → locations_form (n - k) s at ≡ true
unfolding locations_form
form-done n k s at h = let e : n - k ≡ 0 = omega arith in rw e

pub locations-last : (n k : ℕ) (s : List ℕ) (at : ℕ) → n ≤ k → locations_of (n - k) s at ≡ []
unfolding locations_of
locations-last n k s at h = let e : n - k ≡ 0 = omega arith in rw e

-- ---- what a reader of them answers

pub picked-some : {A : Type 0} (b : Bool) (x y : A) → pick b (Some x) None ≡ Some y → (b ≡ true) × (x ≡ y)
picked-some true x y h = (refl, cc)
picked-some false x y h = let z : ◌≡◌ {A = ℕ} 0 1 = cc in absurd (omega arith)

pub picked-none : {A : Type 0} (b : Bool) (x : A) → pick b (Some x) None ≡ None → b ≡ false
picked-none true x h = let z : ◌≡◌ {A = ℕ} 0 1 = cc in absurd (omega arith)
picked-none false x h = refl

module _ (n : ℕ) (s : List ℕ) (at : ℕ) where
  pub locations-refused : locations_form n s at ≡ false → locations_read n s at ≡ None
  unfolding locations_read
  locations-refused h = rw h

  pub locations-taken : locations_form n s at ≡ true → locations_read n s at ≡ Some (padded (locations_of n s at))
  unfolding locations_read
  locations-taken h = rw h

  pub locations-some : (l : List ℕ) → locations_read n s at ≡ Some l → (locations_form n s at ≡ true) × (padded (locations_of n s at) ≡ l)
  unfolding locations_read
  locations-some l h = picked-some (locations_form n s at) (padded (locations_of n s at)) l h

  pub locations-none : locations_read n s at ≡ None → locations_form n s at ≡ false
  unfolding locations_read
  locations-none h = picked-none (locations_form n s at) (padded (locations_of n s at)) h

-- ---- one location more is put: its dash and its six digits

pub location-step : (out x₁ x₂ vs r : List ℕ) (b b' v : ℕ) → x₁ ≡ sets out b (45 ∷ []) → x₂ ≡ sets x₁ (b + 1) (digits 6 v) → b' ≡ b + 7 → sets out b (locations_bytes (v ∷ vs)) ≡ r → sets x₂ b' (locations_bytes vs) ≡ r
unfolding locations_bytes
location-step out x₁ x₂ vs r b b' v e₁ e₂ e h =
    let one : x₂ ≡ sets out b (45 ∷ digits 6 v) = behind out b (45 ∷ []) (digits 6 v) e₁ refl e₂ in
    let long : length (45 ∷ digits 6 v) ≡ 7 = ap suc (length_digits 6 v) in
    behind out b (45 ∷ digits 6 v) (locations_bytes vs) one (omega arith) refl ∙ h

pub no-locations : locations_bytes [] ≡ []
unfolding locations_bytes
no-locations = refl

-- ---- there and back

-- where the bytes of some locations stand, they are read as those
pub locations-back : (vs s r : List ℕ) (at : ℕ) → drop at s ≡ locations_bytes vs ++ r → every is_location vs ≡ true →
    (locations_form (length vs) s at ≡ true) × (locations_of (length vs) s at ≡ vs)
unfolding locations_form locations_of locations_bytes is_location
locations-back [] s r at e h = (refl, refl)
locations-back (v ∷ vs) s r at e h =
    let low : v < 1000000 = ltb-true v 1000000 (every_first is_location v vs h) in
    let six = digits 6 v in
    let rest = locations_bytes vs ++ r in
    let e₁ : drop (at + 1) s ≡ six ++ rest = sym (drop-drop 1 at s) ∙ ap (drop 1) e ∙ append_assoc six (locations_bytes vs) r in
    let e₇ : drop (at + 7) s ≡ rest = ap (λ (k : ℕ). drop k s) (sym (add_assoc at 1 6)) ∙ sym (drop-drop 6 (at + 1) s) ∙ ap (drop 6) e₁ ∙ drop_at six rest 6 (length_digits 6 v) in
    let eₚ : part s (at + 1) 6 ≡ six = ap (take 6) e₁ ∙ take_at six rest 6 (length_digits 6 v) in
    let eₐ : byte_at s at ≡ 45 = ap (byte_at s) (sym (add-zero at)) ∙ sym (get_or-drop at s 0 0) ∙ ap (λ (l : List ℕ). byte_at l 0) e in
    let ih = locations-back vs s r (at + 7) e₇ (every_rest is_location v vs h) in (
      every_of (_ ∷ _ ∷ _ ∷ []) (eq-eqb (byte_at s at) 45 eₐ, (ap all_digits eₚ ∙ digits_are 6 v, (ih.0, tt))),
      ap₂ (λ (x : ℕ) (xs : List ℕ). x ∷ xs) (ap value eₚ ∙ value-digits 6 v low) ih.1,
    )

-- locations that are read are written as the bytes that they stand in
pub locations-forth : (n : ℕ) (s : List ℕ) (at : ℕ) → at + 7 * n ≤ length s → locations_form n s at ≡ true → locations_bytes (locations_of n s at) ++ drop (at + 7 * n) s ≡ drop at s
unfolding locations_form locations_of locations_bytes
locations-forth zero s at h k = ap (λ (m : ℕ). drop m s) (add-zero at)
locations-forth (suc n) s at h k =
    let e = each_of (eqb (byte_at s at) 45 ∷ all_digits (part s (at + 1) 6) ∷ locations_form n s (at + 7) ∷ []) k in
    let six = digits_value 6 (part s (at + 1) 6) (length_part s (at + 1) 6 (omega arith)) e.1.0 in
    let ih = locations-forth n s (at + 7) (omega arith) e.1.1.0 in
    let v = value (part s (at + 1) 6) in
    let lb = locations_bytes (locations_of n s (at + 7)) in
    let m : at + 7 * suc n ≡ at + 7 + 7 * n = omega arith in
    let a : at + 1 + 6 ≡ at + 7 = omega arith in
    ap (λ (r : List ℕ). 45 ∷ r)
    (append_assoc (digits 6 v) lb (drop (at + 7 * suc n) s)
    ∙ ap (λ (j : ℕ). digits 6 v ++ (lb ++ drop j s)) m
    ∙ ap₂ (λ (x y : List ℕ). x ++ y) six ih
    ∙ sym (cut s (at + 1) 6 ∙ ap (λ (j : ℕ). part s (at + 1) 6 ++ drop j s) a))
    ∙ ap (λ (x : ℕ). x ∷ drop (at + 1) s) (sym (eqb-true (byte_at s at) 45 e.0))
    ∙ sym (tail_step s at (omega arith))

pub length-read : (n : ℕ) (s : List ℕ) (at : ℕ) → length (locations_of n s at) ≡ n
unfolding locations_of
length-read zero s at = refl
length-read (suc n) s at = ap suc (length-read n s (at + 7))

pub locations-are : (n : ℕ) (s : List ℕ) (at : ℕ) → at + 7 * n ≤ length s → locations_form n s at ≡ true → every is_location (locations_of n s at) ≡ true
unfolding locations_form locations_of is_location
locations-are zero s at h k = every-none is_location
locations-are (suc n) s at h k =
    let e = each_of (eqb (byte_at s at) 45 ∷ all_digits (part s (at + 1) 6) ∷ locations_form n s (at + 7) ∷ []) k in
    let low = value-below 6 (part s (at + 1) 6) (length_part s (at + 1) 6 (omega arith)) e.1.0 in
    every-step is_location (value (part s (at + 1) 6)) (locations_of n s (at + 7)) (lt-ltb (value (part s (at + 1) 6)) 1000000 low)
    ∙ locations-are n s (at + 7) (omega arith) e.1.1.0
