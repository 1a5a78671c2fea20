-- Runs of calm bytes, each of which is one character of the value.
--     calm-step                                      a step at a calm byte
--     read-calm, fit-calm, copy-calm, spell-calm     a run is read, copied and spelt at once
--     copy-run, spell-run                            as its caller has it
use Prim.Native.Nat.{ℕ, ◌+◌, ◌-◌, ◌≤◌}
use mathlib.Core.Path.{◌≡◌, sym, ap, ◌∙◌, subst⁻¹}
use mathlib.Core.Bool.{Bool, true, false, true≢false}
use mathlib.Core.List.{List}
use native.Mathlib.Nat.{add-zero}
use native.Mathlib.Numerals.{add-one}
use native.Mathlib.Omega.{arith}
use lib.ListN.{set}
use lib.Seq.{sets}
use Rattle.octets.specs.Bytes.{byte_at}
use Rattle.octets.proofs.Tests.{between_is}
use Rattle.calm.specs.WorkingCalm.{is_mark, calm_at, Calm, soft, soft_at}
use Rattle.calm.proofs.Marks.{calm-elim, soft-mark, soft-white, soft-least, soft-most}
use Rattle.calm.proofs.Calms.{carried, put_one_lem}
use Rattle.values.specs.WorkingSteps.{step_at, lead_at, TakesPrintable}
use Rattle.values.specs.Value.{value_at}
use Rattle.std.specs.Prelude.{Some}
use Rattle.values.proofs.Steps.{mark-step, space-step}
use Rattle.values.proofs.Loops.{Reading, More, read_more, read-starts, Copying, copy-starts, copy_more, Spelling, spell-mark}
use Rattle.values.proofs.Printables.{Fitting, fit-more}
use Rattle.values.proofs.Copies.{low-is}

pub calm-step : (s : List ℕ) (i : ℕ) → calm_at s i ≡ true → step_at s i ≡ Some (soft (byte_at s i), i + 1)
calm-step s i h =
    let b = byte_at s i in
    calm-elim b (byte_at s (i + 1)) (step_at s i ≡ Some (soft b, i + 1)) h
    (λ m. mark-step s i m ∙ ap (λ (x : ℕ). Some (x, i + 1)) (sym (soft-mark b m)))
    (λ w m. space-step s i w m ∙ ap (λ (x : ℕ). Some (x, i + 1)) (sym (soft-white b w)))

-- one that is no mark is white space
pub calm-space : (s : List ℕ) (i : ℕ) → calm_at s i ≡ true → is_mark (byte_at s i) ≡ false → step_at s i ≡ Some (32, i + 1)
calm-space s i h n = calm-elim (byte_at s i) (byte_at s (i + 1)) (step_at s i ≡ Some (32, i + 1)) h (λ m. absurd (true≢false (sym m ∙ n))) (space-step s i)

module _ {s v : List ℕ} where
  -- a calm byte is the next character
  calm-next : {i k : ℕ} → Reading s v i k → calm_at s i ≡ true → More s v i k (soft (byte_at s i)) (i + 1)
  calm-next {i} r h = read_more r (soft (byte_at s i)) (i + 1) (calm-step s i h)

  module _ {i k : ℕ} (n : ℕ) (w : Calm s i n) where
    pub read-calm : Reading s v i k → Reading s v (i + n) (k + n)
    read-calm r = carried s (λ j. Reading s v (i + j) (k + j)) i n w
        (λ j l h q. let a : i + (j + 1) ≡ i + j + 1 = omega arith in let b : k + (j + 1) ≡ k + j + 1 = omega arith in rw (a, b) (calm-next q h).reads)
        (rw (add-zero, add-zero) r)

    pub fit-calm : {p : ℕ → Bool} → TakesPrintable p → Fitting p s v i k → Fitting p s v (i + n) (k + n)
    fit-calm {p} takes r = carried s (λ j. Fitting p s v (i + j) (k + j)) i n w
        (λ j l h q.
        let a : i + (j + 1) ≡ i + j + 1 = omega arith in
        let b : k + (j + 1) ≡ k + j + 1 = omega arith in
        let y = soft (byte_at s (i + j)) in
        let c = between_is 32 126 y (soft-least (byte_at s (i + j)) (byte_at s (i + j + 1)) h) (soft-most (byte_at s (i + j)) (byte_at s (i + j + 1)) h) in
        rw (a, b) (fit-more q (calm-next q.reads h) (takes y c)))
        (rw (add-zero, add-zero) r)

-- what is put is the bytes as they stand, white space as a space
module _ {s : List ℕ} {i : ℕ} (n : ℕ) (w : Calm s i n) where
  -- from the first character on
  pub copy-calm : {v : List ℕ} → Reading s v i 0 → (g : ℕ) (d : List ℕ) (to : ℕ) → n ≤ g → Copying s v g d to (sets d to (soft_at s i n)) (i + n) n
  unfolding soft_at
  copy-calm {v} r g d to m = carried s (λ j. Copying s v g d to (sets d to (soft_at s i j)) (i + j) j) i n w
      (λ j l h q.
      let c = soft (byte_at s (i + j)) in
      let a : i + (j + 1) ≡ i + j + 1 = omega arith in
      let y = soft-most (byte_at s (i + j)) (byte_at s (i + j + 1)) h in
      let e : sets d to (soft_at s i (j + 1)) ≡ set (sets d to (soft_at s i j)) (to + j) c = rw add-one (sym (put_one_lem s d to i j)) in
      rw (a, e) (copy_more q c (calm-next q.reads h) (omega (arith, l, m)) (sym (low-is c (omega arith)))))
      (rw add-zero (copy-starts r g d to))

  pub spell-calm : {at g : ℕ} {d : List ℕ} {to : ℕ} {x : List ℕ} {k e : ℕ} → Spelling s at g d to x i k e → k + n ≤ g
      → Spelling s at g d to (sets x e (soft_at s i n)) (i + n) (k + n) (e + n)
  unfolding soft_at
  spell-calm {at} {g} {d} {to} {x} {k} {e} r m = carried s (λ j. Spelling s at g d to (sets x e (soft_at s i j)) (i + j) (k + j) (e + j)) i n w
      (λ j l h q.
      let c = soft (byte_at s (i + j)) in
      let a : i + (j + 1) ≡ i + j + 1 = omega arith in
      let b : k + (j + 1) ≡ k + j + 1 = omega arith in
      let f : e + (j + 1) ≡ e + j + 1 = omega arith in
      let y = soft-most (byte_at s (i + j)) (byte_at s (i + j + 1)) h in
      let t : sets x e (soft_at s i (j + 1)) ≡ set (sets x e (soft_at s i j)) (e + j) c = rw add-one (sym (put_one_lem s x e i j)) in
      rw (a, b, f, t) (spell-mark q c (calm-step s (i + j) h) (omega arith) (omega (arith, l, m))))
      (rw (add-zero, add-zero, add-zero) r)

-- a run that was put
module _ {s : List ℕ} where
  pub copy-run : (at : ℕ) {i : ℕ} → i ≡ lead_at s at → (n : ℕ) → Calm s i n → (g : ℕ) (d : List ℕ) (to : ℕ) → n ≤ g → (y : List ℕ) → y ≡ sets d to (soft_at s i n)
      → Copying s (value_at s at) g d to y (i + n) n
  copy-run at {i} e n w g d to m y p = subst⁻¹ (λ (z : List ℕ). Copying s (value_at s at) g d to z (i + n) n) p (copy-calm n w (rw e (read-starts s at)) g d to m)

  pub spell-run : {at g : ℕ} {d : List ℕ} {to : ℕ} {x : List ℕ} {i k e : ℕ} → Spelling s at g d to x i k e → (n : ℕ) → Calm s i n → n ≤ g - k
      → (y : List ℕ) → y ≡ sets x e (soft_at s i n) → Spelling s at g d to y (i + n) (k + n) (e + n)
  spell-run {at} {g} {d} {to} {x} {i} {k} {e} r n w m y p =
      let h = r.most in
      subst⁻¹ (λ (z : List ℕ). Spelling s at g d to z (i + n) (k + n) (e + n)) p (spell-calm n w r (omega arith))
