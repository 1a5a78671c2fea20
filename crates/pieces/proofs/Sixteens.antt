-- Blocks of a run of text, and white space before them.
--     still-run, line-run      what the test of a byte tells
--     one_on_lem, past-scan    the scan goes over a byte of a run, and over bytes of a class of them
--     runs-scan, runs-edge     and over blocks, and where they end
use Prim.Native.Nat.{ℕ, zero, suc, ◌+◌, ◌≤◌, ◌<◌}
use mathlib.Core.Path.{◌≡◌, refl, sym, ◌∙◌}
use mathlib.Core.Bool.{Bool, true, false, false≢true}
use mathlib.Core.List.{List}
use mathlib.Core.Logic.{◌⊎◌, inl, inr}
use native.Mathlib.Nat.{add-zero}
use native.Mathlib.Omega.{arith}
use native.Mathlib.Decide.{dec_lt}
use borrow.Author.Tests.{ne_eqb, eqb-true}
use lib.Dec.{eqb, ltb}
use lib.ListN.{length}
use Rattle.octets.specs.Bytes.{pick, byte_at, every, between, one_of, is_space}
use Rattle.octets.specs.Scan.{scan, scan_by, past}
use Rattle.octets.proofs.Scans.{ScanningBy, by-more, by-stop, scan-ge}
use Rattle.octets.proofs.Tests.{not-under, not_equal}
use Rattle.characters.specs.Utf8.{is_legal, is_single, width_at}
use Rattle.characters.proofs.Legals.{single-low, space-high}
use Rattle.pieces.specs.WorkingClasses.{is_run, Runs}
use Rattle.pieces.specs.Pieces.{in_text}
use Rattle.pieces.proofs.Inside.{run-rest, run-basic, run_in, run-goes-on, text-steps, Turned, turns}

-- ---- the tests, where they give 0

pub still-run : (b p q r t u : ℕ) → p ≡ pick (ltb b 32) 1 0 → q ≡ pick (ltb 126 b) 1 0 → r ≡ pick (eqb b 38) 1 0 → t ≡ pick (eqb b 60) 1 0 → u ≡ pick (eqb b 93) 1 0
    → p + q + r + t + u ≡ 0 → is_run b ≡ true
unfolding one_of
still-run b p q r t u e f g h k z =
    rw (
      run-basic b (not-under b 32 p e (omega (arith, z))) (omega (arith, not-under 126 b q f (omega (arith, z)))),
      ne_eqb b 93 (not_equal b 93 u k (omega (arith, z))),
      ne_eqb b 60 (not_equal b 60 t h (omega (arith, z))),
      ne_eqb b 38 (not_equal b 38 r g (omega (arith, z))),
    )

pub line-run : (b p : ℕ) → p ≡ pick (eqb b 10) 1 0 → (p ≡ 0 → ⊥) → is_run b ≡ true
unfolding is_run is_single is_legal one_of between every
line-run b p e n = go (eqb b 10) refl
  where
    go : (x : Bool) → eqb b 10 ≡ x → is_run b ≡ true
    go true u = rw (eqb-true b 10 u)
    go false u = let z : p ≡ 0 = e ∙ rw u in absurd (n z)

-- ---- runs

-- a byte of a run is a turn of the scan
pub one_on_lem : (s : List ℕ) (from i : ℕ) → is_run (byte_at s i) ≡ true → ScanningBy (width_at s) (in_text s) (length s) from i → Turned s (in_text s) from i 1
one_on_lem s from i h v = turns s (in_text s) from i 1 (text-steps s) (run-goes-on s i h) v (omega arith)

pub space-run : (b : ℕ) → is_space b ≡ true → is_run b ≡ true
unfolding is_run is_single is_legal one_of between every
space-run b h = go (dec_lt b 32) (dec_lt 32 b)
  where
    go : Dec (b < 32) → Dec (32 < b) → is_run b ≡ true
    go (yes l) _ = sym (single-low b l ∙ run-rest b (omega arith) (omega arith) (omega arith)) ∙ h
    go (no l) (yes m) = absurd (false≢true (space-high b m ∙ h))
    go (no l) (no m) = let e : b ≡ 32 = omega arith in rw e

module _ (s : List ℕ) (from : ℕ) where
  abbrev pub On : ℕ → Type 0
  On i = ScanningBy (width_at s) (in_text s) (length s) from i

  module _ (q : ℕ → Bool) (runs : (b : ℕ) → q b ≡ true → is_run b ≡ true) where
    pub past-scan : (n i : ℕ) → On i → On (scan (λ j. q (byte_at s j)) n i)
    unfolding scan_by
    past-scan zero i v = v
    past-scan (suc n) i v = go (q (byte_at s i)) refl (past-scan n (i + 1))
      where
        go : (b : Bool) → q (byte_at s i) ≡ b → (On (i + 1) → On (scan (λ j. q (byte_at s j)) n (i + 1))) → On (scan (λ j. q (byte_at s j)) (suc n) i)
        go true e f = rw (by-more (λ j. 1) (λ j. q (byte_at s j)) n i e) (f (one_on_lem s from i (runs (byte_at s i) e) v).scans)
        go false e f = rw (by-stop (λ j. 1) (λ j. q (byte_at s j)) (suc n) i e) v

  pub runs-scan : (at n : ℕ) → Runs s at n → On at → On (at + n)
  runs-scan at zero w v = rw (add-zero at) v
  runs-scan at (suc n) w v =
      let u : at + suc n ≡ at + n + 1 = omega arith in
      rw u (one_on_lem s from (at + n) (w n (omega arith)) (runs-scan at n (λ j h. w j (omega (arith, h))) v)).scans

-- blocks and then bytes, up to j
pub stretch-scan : (s : List ℕ) (from i n j : ℕ) → Runs s i n → j ≡ past is_run s (i + n) → On s from i → On s from j
stretch-scan s from i n j w e v = rw e (past-scan s from is_run (λ b q. q) (length s) (i + n) (runs-scan s from i n w v))

pub stretch-on : (s : List ℕ) (i n j : ℕ) → j ≡ past is_run s (i + n) → i ≤ j
stretch-on s i n j e = let g = scan-ge (λ k. is_run (byte_at s k)) (length s) (i + n) in omega (arith, g)

pub runs-edge : (s : List ℕ) (at n : ℕ) → Runs s at n → at + n ≤ at ⊎ at + n ≤ length s
runs-edge s at zero w = inl (omega arith)
runs-edge s at (suc n) w = let l = run_in s (at + n) (w n (omega arith)) in inr (omega (arith, l))
