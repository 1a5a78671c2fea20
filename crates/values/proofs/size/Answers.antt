-- Each character fits.
use Rattle.std.proofs.Common.{◌≡◌, ◌∙◌, true, rules, refl, List, [], ◌∷◌, ℕ}
use Rattle.octets.specs.Bytes.{every}
use Rattle.octets.proofs.Tests.{every-none, every-step}
use Rattle.values.specs.Value.{value_at}
use Rattle.values.proofs.size.Goals as goal

all-fit : (v : List ℕ) → every (λ _. true) v ≡ true
all-fit [] = every-none (λ _. true)
all-fit (c ∷ v) = every-step (λ _. true) c v refl ∙ all-fit v

pub returns : goal.returns
returns c = let e = c.size_if.ensures (λ _. true) (search rules) (λ _ _. refl) in rw (all-fit (value_at c.args.s.now c.args.at)) at e
