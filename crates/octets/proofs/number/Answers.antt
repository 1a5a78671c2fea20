use mathlib.Core.Path.{◌≡◌, sym, ap, ◌∙◌}
use mathlib.Core.List.{List}
use Prim.Native.Nat.{ℕ, ◌+◌, ◌-◌, ◌^◌, ◌≤◌, ◌<◌}
use native.Mathlib.Omega.{arith}
use lib.ListN.{length, drop_of_length-le}
use Rattle.std.specs.Prelude.{Some}
use Rattle.octets.specs.Bytes.{part, is_digit}
use Rattle.octets.specs.Digits.{all_digits, value_from, num_of}
use Rattle.octets.proofs.Tests.{every-step, every-stop, every-none}
use Rattle.octets.proofs.Parts.{tail_step, length_part}
use Rattle.octets.proofs.Numbers.{ten-step, ten-under, digit_low, digit-high, value-step, num-bad, num-good}
use Rattle.octets.proofs.number.Goals as goal

-- the bytes that are read, as their slice is cut
abbrev cut : List ℕ → ℕ → ℕ → List ℕ
cut s at n = part s at (at + n - at)

cut_is : (s : List ℕ) (at n : ℕ) → cut s at n ≡ part s at n
cut_is s at n = let e : at + n - at ≡ n = omega arith in ap (part s at) e

small : (s : List ℕ) (at n i : ℕ) → at + n ≤ length s → n ≤ 9 → i < length (cut s at n) → 10 ^ i ≤ 100000000
small s at n i h k l = ten-under i (omega (arith, ap length (cut_is s at n), length_part s at n h))

pub overflow_mul-v : goal.overflow_mul-v
overflow_mul-v c =
    let a = c.args in
    let l = c.loop-b in
    omega (arith, l.invariant.0, small a.s.now a.at a.n l.b-index c.requires.n_in_bounds c.requires.n_bound c.loop-b-test.true)

pub overflow_sub-b : goal.overflow_sub-b
overflow_sub-b c = digit_low _ (sym c.is_digit.ensures ∙ c.if-not-is_digit.false)

pub overflow_add-v : goal.overflow_add-v
overflow_add-v c =
    let a = c.args in
    let l = c.loop-b in
    omega (arith, l.invariant.0, c.from.ensures, digit-high _ (sym c.is_digit.ensures ∙ c.if-not-is_digit.false), small a.s.now a.at a.n l.b-index c.requires.n_in_bounds c.requires.n_bound c.loop-b-test.true)

pub returns-then-not-is_digit : goal.returns-then-not-is_digit
returns-then-not-is_digit c =
    let a = c.args in
    let l = c.loop-b in
    let s = cut a.s.now a.at a.n in
    let bad = sym l.invariant.2 ∙ ap all_digits (tail_step s l.b-index c.loop-b-test.true) ∙ every-stop is_digit _ _ (sym c.is_digit.ensures ∙ c.if-not-is_digit.true) in
    sym (num-bad _ (ap all_digits (sym (cut_is a.s.now a.at a.n)) ∙ bad))

pub loop-b-preserved : goal.loop-b-preserved
loop-b-preserved c =
    let a = c.args in
    let l = c.loop-b in
    let st = tail_step (cut a.s.now a.at a.n) l.b-index c.loop-b-test.true in
    let d = sym c.is_digit.ensures ∙ c.if-not-is_digit.false in (
      rw (ten-step l.b-index) (omega (arith, l.invariant.0, c.from.ensures, digit-high _ d)),
      sym (value-step _ _ _ _ c.from.ensures) ∙ sym (ap (value_from _) st) ∙ l.invariant.1,
      sym (every-step _ _ _ d) ∙ sym (ap all_digits st) ∙ l.invariant.2,
    )

pub returns : goal.returns
unfolding value_from
returns c =
    let a = c.args in
    let l = c.loop-b in
    let s = cut a.s.now a.at a.n in
    let e = drop_of_length-le s c.loop-b-test.false in
    ap Some (sym (ap (value_from _) e) ∙ l.invariant.1) ∙ sym (num-good _ (sym l.invariant.2 ∙ ap all_digits e ∙ every-none _)) ∙ ap num_of (cut_is a.s.now a.at a.n)
