-- Each character is compared as it is, and a value of such characters is the value.
use Prim.Native.Nat.{ℕ}
use mathlib.Core.Path.{ap, ◌∙◌}
use mathlib.Core.List.{List, map-id}
use borrow.Author.Rules.{rules}
use Rattle.octets.specs.Bytes.{same}
use Rattle.values.specs.Value.{value_at}
use Rattle.values.proofs.equal.Goals as goal

pub returns : goal.returns
returns c = let a = c.args in c.matches.ensures (λ c. c) (search rules) ∙ ap (λ (v : List ℕ). same v a.w.now) (map-id (value_at a.s.now a.at))
