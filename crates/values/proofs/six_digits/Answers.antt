-- Seven characters show whether the value has six; if so, they are what was copied, and the number is read from the copy.
use Prim.Native.Nat.{ℕ}
use mathlib.Core.Path.{◌≡◌, sym, ap, ◌∙◌}
use mathlib.Core.Bool.{true}
use mathlib.Core.List.{List, [], ◌∷◌, map}
use native.Mathlib.Omega.{arith}
use borrow.Author.Tests.{eq-eqb, ne_eqb}
use lib.ListN.{length, take, length-take, length-map}
use lib.Seq.{take_all}
use Rattle.octets.specs.Bytes.{every, part, is_digit}
use Rattle.octets.specs.Digits.{all_digits, value, num_of}
use Rattle.std.specs.Prelude.{Some, None}
use Rattle.octets.proofs.Tests.{every-none, every-step, every_first, every_rest, between_is, between-low, between-high}
use Rattle.values.specs.WorkingSteps.{low, six_digits}
use Rattle.values.proofs.Copies.{is_kept, low-pick}
use Rattle.values.proofs.six_digits.Goals as goal

six-not : (v : List ℕ) → (length (take 7 v) ≡ 6 → ⊥) → None ≡ six_digits v
unfolding six_digits
six-not v h = let n : length v ≡ 6 → ⊥ = λ e. h (simp length-take (omega arith)) in rw (ne_eqb (length v) 6 n)

-- the digits of the copy are those of the value
digits-kept : (v : List ℕ) → all_digits v ≡ true → every is_kept v ≡ true
unfolding is_digit
digits-kept [] h = every-none is_kept
digits-kept (c ∷ v) h =
    let d = every_first is_digit c v h in
    every-step is_kept c v (between_is 1 127 c (omega (arith, between-low 48 57 c d)) (omega (arith, between-high 48 57 c d))) ∙ digits-kept v (every_rest is_digit c v h)

num-low : (v : List ℕ) → num_of (map low v) ≡ num_of v
unfolding num_of
num-low v = low-pick all_digits digits-kept v (λ w. Some (value w)) None

six-are : (v w : List ℕ) → w ≡ map low (take 7 v) → length w ≡ 6 → num_of (part w 0 6) ≡ six_digits v
unfolding six_digits
six-are v w e h =
    let l : length (take 7 v) ≡ 6 = sym (length-map (take 7 v) low) ∙ ap length (sym e) ∙ h in
    let n : length v ≡ 6 = omega (arith, simp length-take at l) in
    rw (eq-eqb (length v) 6 n) (ap num_of (take_all 6 w (omega arith) ∙ e ∙ ap (map low) (take_all 7 v (omega arith))) ∙ num-low v)

pub returns-then-digits-ne6 : goal.returns-then-digits-ne6
returns-then-digits-ne6 c = six-not _ (λ e. c.if-digits-ne6.true (ap length c.front-digits.ensures ∙ length-map _ low ∙ e))

pub returns : goal.returns
returns c = c.number.ensures ∙ six-are _ _ c.front-digits.ensures c.if-digits-ne6.false
