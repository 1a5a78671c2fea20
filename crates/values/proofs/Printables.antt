-- A value of which each character fits, read character by character.
--     fit-starts, fit-more     each that is read so far fits
--     fit-fails                one does not
--     fit-done                 each does
use Prim.Native.Nat.{ℕ, ◌+◌}
use mathlib.Core.Path.{◌≡◌, refl, ap, ◌∙◌}
use mathlib.Core.Bool.{Bool, true, false}
use mathlib.Core.List.{List}
use native.Mathlib.Omega.{arith}
use lib.ListN.{length, drop}
use Rattle.octets.specs.Bytes.{every}
use Rattle.octets.proofs.Everys.{every-on, every-broken, every-ended}
use Rattle.values.specs.Value.{value_at}
use Rattle.values.specs.WorkingSteps.{lead_at, size_if}
use Rattle.values.proofs.Loops.{Reading, More, read-starts}

pub record Fitting (p : ℕ → Bool) (s v : List ℕ) (i k : ℕ) : Type 0 where
  pub reads : Reading s v i k
  pub left : every p (drop k v) ≡ every p v

module _ {p : ℕ → Bool} where
  pub fit-starts : (s : List ℕ) (at : ℕ) → Fitting p s (value_at s at) (lead_at s at) 0
  fit-starts s at = record { reads = read-starts s at; left = refl }

  module _ {s v : List ℕ} {i k : ℕ} (r : Fitting p s v i k) where
    module _ {c j : ℕ} (m : More s v i k c j) where
      pub fit-more : p c ≡ true → Fitting p s v j (k + 1)
      fit-more e = record { reads = m.reads; left = every-on p v k (every p v) r.left m.inside (ap p m.is ∙ e) }

      pub fit-fails : p c ≡ false → 0 ≡ size_if p v
      fit-fails e = rw (every-broken p v k (every p v) r.left m.inside (ap p m.is ∙ e))

    pub fit-done : k ≡ length v → k ≡ size_if p v
    fit-done e = rw (every-ended p v k (every p v) r.left (omega arith)) e
