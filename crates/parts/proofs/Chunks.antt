-- A slice as an array of n elements: r is what the conversion of t gives.
use Prim.Native.Nat.{ℕ}
use mathlib.Core.List.{List}
use mathlib.Core.Logic.{◌≢◌}
use mathlib.Core.Path.{◌≡◌}
use native.Mathlib.Omega.{arith}
use lib.Dec.{eqb}
use lib.ListN.{length}
use borrow.Author.Tests.{eq-eqb, ne_eqb}
use Rattle.octets.specs.Bytes.{pick}
use Rattle.std.specs.Array.{IsWholeChunk}
use Rattle.std.specs.Prelude.{Result, Ok, Err, Some, None}
use Rattle.std.specs.Result.{MatchResult, result_ok, result_unwrap_or}

abbrev pub Whole : {E : Type 0} → Result (List ℕ) E → List ℕ → ℕ → Type 0
Whole r t n = MatchResult r (λ y. IsWholeChunk t y n) (λ _. length t ≢ n)

pub whole-or : {E : Type 0} (r : Result (List ℕ) E) (t z : List ℕ) (n : ℕ) → Whole r t n → result_unwrap_or r z ≡ pick (eqb (length t) n) t z
whole-or (Ok y) t z n h = rw (eq-eqb (length t) n h.long) h.same
whole-or (Err e) t z n h = rw (ne_eqb (length t) n h)

pub whole-not : {E : Type 0} (r : Result (List ℕ) E) (t : List ℕ) (n : ℕ) → Whole r t n → None ≡ result_ok r → length t ≢ n
whole-not (Ok y) t n h e = let z : ◌≡◌ {A = ℕ} 0 1 = cc in absurd (omega arith)
whole-not (Err d) t n h e = h

pub whole-is : {E : Type 0} (r : Result (List ℕ) E) (t y : List ℕ) (n : ℕ) → Whole r t n → Some y ≡ result_ok r → (length t ≡ n) × (y ≡ t)
whole-is (Ok x) t y n h e = let s = h.same in (h.long, cc)
whole-is (Err d) t y n h e = let z : ◌≡◌ {A = ℕ} 0 1 = cc in absurd (omega arith)
