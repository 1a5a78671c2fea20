-- Where a declaration goes on, and where it does not: at `?>`, and where no bytes of UTF-8 stand, as past the end.
use Prim.Native.Nat.{ℕ, ◌+◌, ◌<◌, ◌≤◌}
use mathlib.Core.Path.{◌≡◌, refl, ap, ◌∙◌}
use mathlib.Core.Bool.{Bool, true, false, and-true, and-false}
use mathlib.Core.List.{List, [], ◌∷◌}
use native.Mathlib.Omega.{arith}
use Rattle.octets.specs.Bytes.{pick, stands}
use Rattle.octets.specs.Text.{bytes}
use Rattle.octets.proofs.Tests.{and_left}
use Rattle.characters.specs.Utf8.{width, written, coded_at, coded_width}
use lib.ListN.{length}
use Rattle.characters.proofs.Coded.{CodedSteps, coded-steps}
use Rattle.markup.specs.Document.{in_declaration}

module _ (s : List ℕ) (i : ℕ) where
  pub steps_on : in_declaration s i ≡ true → CodedSteps s i
  unfolding in_declaration
  steps_on h = coded-steps s i (and_left (coded_at s i) _ h)

  pub at_mark : stands (63 ∷ 62 ∷ []) s i ≡ true → 0 ≡ pick (in_declaration s i) (coded_width s i) 0
  unfolding in_declaration bytes
  at_mark y = rw (y, and-false)

  pub goes_on : stands (63 ∷ 62 ∷ []) s i ≡ false → coded_width s i ≡ pick (in_declaration s i) (coded_width s i) 0
  unfolding in_declaration coded_width bytes
  goes_on y = rw (y, and-true) (go (coded_at s i))
    where
      go : (b : Bool) → ◌≡◌ {A = ℕ} (pick b (width (written s i)) 0) (pick b (pick b (width (written s i)) 0) 0)
      go true = refl
      go false = refl

-- a turn stays inside
pub declaration-in : (s : List ℕ) (i n : ℕ) → n ≡ pick (in_declaration s i) (coded_width s i) 0 → 0 < n → i + n ≤ length s
declaration-in s i n e z = go (in_declaration s i) refl
  where
    go : (b : Bool) → in_declaration s i ≡ b → i + n ≤ length s
    go true h = let t = steps_on s i h in let l = t.in-it in let q : n ≡ coded_width s i = e ∙ ap (λ (b : Bool). pick b (coded_width s i) 0) h in omega arith
    go false h = let q : n ≡ 0 = e ∙ ap (λ (b : Bool). pick b (coded_width s i) 0) h in absurd (omega arith)
