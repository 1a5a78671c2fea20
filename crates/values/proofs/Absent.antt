-- A test by whether a step is there.
use Rattle.std.proofs.Common.{◌≡◌, ◌∙◌, ℕ, Bool, true, false, not, refl, sym}
use Rattle.std.specs.Prelude.{Option, Some, None}
use Rattle.std.specs.Option.{is_some}

pub by_none : (x : Option (ℕ × ℕ)) (r b : Bool) → is_some x ≡ not r → (x ≡ None → b ≡ true) → ((c j : ℕ) → x ≡ Some (c, j) → b ≡ false) → r ≡ b
by_none None true b e n s = sym (n refl)
by_none None false b e n s = cc
by_none (Some (c, j)) true b e n s = cc
by_none (Some (c, j)) false b e n s = sym (s c j refl)

pub by_some : (x : Option (ℕ × ℕ)) (r b : Bool) → is_some x ≡ r → (x ≡ None → b ≡ false) → ((c j : ℕ) → x ≡ Some (c, j) → b ≡ true) → r ≡ b
by_some None r b e n s = sym e ∙ sym (n refl)
by_some (Some (c, j)) r b e n s = sym e ∙ sym (s c j refl)
