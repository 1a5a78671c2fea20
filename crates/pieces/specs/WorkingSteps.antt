-- What the walks ask of the steps and tests that they are given, and which functions those are. Each is given as the relation of what it takes and what it answers.
use Rattle.std.specs.Prelude.{ℕ, ◌+◌, ◌<◌, ◌≤◌, ◌≡◌, Bool, true, List, length}
use Rattle.octets.specs.Bytes.{pick}
use Rattle.pieces.specs.declared.Step.{Step}
use Rattle.pieces.specs.declared.Step.TheVariants.{Go}

-- a step goes forward and stays inside
abbrev pub Forward : List ℕ → (ℕ → Step → Type 0) → Type 0
Forward s steps = (i j : ℕ) → steps i (Go j) → (i < j) × (j ≤ length s)

-- each step is f's
abbrev pub Follows : (ℕ → Step → Type 0) → (ℕ → Step) → Type 0
Follows steps f = (i : ℕ) (p : Step) → steps i p → p ≡ f i

-- each test is p's
abbrev pub Tests : (ℕ → Bool → Type 0) → (ℕ → Bool) → Type 0
Tests tests p = (b : ℕ) (t : Bool) → tests b t → t ≡ p b

-- a width is that of what stands inside
abbrev pub Inside : List ℕ → (ℕ → ℕ → Type 0) → Type 0
Inside s widths = (i n : ℕ) → widths i n → 0 < n → i + n ≤ length s

-- each width is w's where p holds, and else 0
pub record Widths (widths : ℕ → ℕ → Type 0) (w : ℕ → ℕ) (p : ℕ → Bool) : Type 0 where
  pub each : (i n : ℕ) → widths i n → n ≡ pick (p i) (w i) 0
  pub some : (i : ℕ) → p i ≡ true → 0 < w i
