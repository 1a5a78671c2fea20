-- Locations asked by their digits, and the body that is asked.
use Prim.Native.Nat.{ℕ, suc, ◌+◌, ◌-◌, ◌*◌, ◌/◌, ◌≤◌, ◌<◌}
use mathlib.Core.Bool.{Bool, true, false}
use mathlib.Core.List.{List, [], ◌∷◌, ◌++◌}
use mathlib.Core.Path.{◌≡◌, refl, sym, ap, ◌∙◌}
use native.Mathlib.Omega.{arith}
use lib.ListN.{length, drop, get_or, drop_of_length-le}
use borrow.Author.Tests.{eq-eqb}
use Rattle.octets.proofs.Everys.{every-past, every-short}
use Rattle.octets.proofs.Parts.{cut}
use Rattle.octets.proofs.Tests.{every_of, one-fails, every-none}
use Rattle.octets.specs.Bytes.{pick, every, holds, part, is_digit}
use Rattle.octets.specs.Digits.{all_digits, value}
use Rattle.parts.specs.Parts.{padded}
use Rattle.parts.specs.WorkingAsked.{sixes, sixes_tests, sixes_ok, sixes_read, asked_tests, asked_ok, asked_body}
use Rattle.parts.specs.Originator.{is_known, known, numbered}
use Rattle.parts.specs.Parts.{no_body}
use Rattle.parts.specs.declared.Body.{Body}
use Rattle.std.specs.Prelude.{Some, None}
use Rattle.parts.specs.declared.Originator.{Originator}

-- ---- six digits for each location

-- n - k of them are left where k were read
pub sixes-cut : (n k : ℕ) (s : List ℕ) → k < n → sixes (n - k) s (6 * k) ≡ value (part s (6 * k) 6) ∷ sixes (n - (k + 1)) s (6 * (k + 1))
unfolding sixes
sixes-cut n k s h =
    let e : n - k ≡ suc (n - (k + 1)) = omega arith in
    let f : 6 * k + 6 ≡ 6 * (k + 1) = omega arith in
    rw (e, f)

pub sixes-last : (n k : ℕ) (s : List ℕ) (at : ℕ) → n ≤ k → sixes (n - k) s at ≡ []
unfolding sixes
sixes-last n k s at h = let e : n - k ≡ 0 = omega arith in rw e

-- the digits behind k locations decide
module _ (s : List ℕ) (k : ℕ) (so : all_digits (drop (6 * k) s) ≡ all_digits s) where
  front : all_digits s ≡ all_digits (part s (6 * k) 6 ++ drop (6 * (k + 1)) s)
  front = let f : 6 * k + 6 ≡ 6 * (k + 1) = omega arith in sym so ∙ ap all_digits (rw f at (cut s (6 * k) 6))

  pub digits-on : all_digits (part s (6 * k) 6) ≡ true → all_digits (drop (6 * (k + 1)) s) ≡ all_digits s
  digits-on h = sym (front ∙ every-past is_digit (part s (6 * k) 6) (drop (6 * (k + 1)) s) h)

  pub digits-broken : all_digits (part s (6 * k) 6) ≡ false → all_digits s ≡ false
  digits-broken h = front ∙ every-short is_digit (part s (6 * k) 6) (drop (6 * (k + 1)) s) h

  pub digits-ended : length s ≤ 6 * k → all_digits s ≡ true
  digits-ended h = sym so ∙ ap all_digits (drop_of_length-le s h) ∙ every-none is_digit

pub sixes-refused : (i : ℕ) (s : List ℕ) → get_or (sixes_tests s) i true ≡ false → sixes_read s ≡ None
unfolding sixes_read sixes_ok
sixes-refused i s h = rw (one-fails i (sixes_tests s) h)

pub sixes-taken : (s : List ℕ) → sixes_ok s ≡ true → sixes_read s ≡ Some (padded (sixes (length s / 6) s 0))
unfolding sixes_read
sixes-taken s h = rw h

pub sixes-none : (s : List ℕ) → sixes_read s ≡ None → sixes_ok s ≡ false
unfolding sixes_read
sixes-none s h = go (sixes_ok s) h
  where
    go : (b : Bool) → pick b (Some (padded (sixes (length s / 6) s 0))) None ≡ None → b ≡ false
    go true h = let z : ◌≡◌ {A = ℕ} 0 1 = cc in absurd (omega arith)
    go false h = refl

pub sixes-some : (s l : List ℕ) → sixes_read s ≡ Some l → (sixes_ok s ≡ true) × (l ≡ padded (sixes (length s / 6) s 0))
unfolding sixes_read
sixes-some s l h = go (sixes_ok s) h
  where
    go : (b : Bool) → pick b (Some (padded (sixes (length s / 6) s 0))) None ≡ Some l → (b ≡ true) × (l ≡ padded (sixes (length s / 6) s 0))
    go true h = (refl, cc)
    go false h = let z : ◌≡◌ {A = ℕ} 0 1 = cc in absurd (omega arith)

-- ---- the body that is asked

module _ (originator : ℕ) (event locations : List ℕ) (period day hour minute : ℕ) where
  pub asked-refused : (i : ℕ) → get_or (asked_tests originator event locations) i true ≡ false → asked_body originator event locations period day hour minute ≡ no_body
  unfolding asked_body asked_ok
  asked-refused i h = rw (one-fails i (asked_tests originator event locations) h)

  pub asked-taken : (o : Originator) (e l : List ℕ) → numbered originator ≡ Some o → length event ≡ 3 → sixes_ok locations ≡ true → e ≡ event → l ≡ padded (sixes (length locations / 6) locations 0) →
      ◌≡◌ {A = Body} (record { originator = o; event = e; count = length locations / 6; locations = l; period = period; day = day; hour = hour; minute = minute }) (asked_body originator event locations period day hour minute)
  unfolding asked_body asked_ok
  asked-taken o e l n k s f g =
      let ok : every holds (asked_tests originator event locations) ≡ true = every_of (asked_tests originator event locations) (ap is_known n, (eq-eqb (length event) 3 k, (s, tt))) in
      (λ i. record { originator = sym (ap known n) i; event = f i; count = length locations / 6; locations = g i; period = period; day = day; hour = hour; minute = minute })
      ∙ sym (rw ok)
