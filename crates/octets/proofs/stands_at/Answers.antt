-- What stands behind the place begins with t; past the end only a run that is empty stands.
use mathlib.Core.Path.{ap, ◌∙◌}
use mathlib.Core.List.{List}
use mathlib.Core.Logic.{⊎_elim}
use Prim.Native.Nat.{ℕ, ◌<◌}
use native.Mathlib.Omega.{arith}
use lib.ListN.{length, take}
use Rattle.std.proofs.lemmas.List.{take_rest}
use Rattle.octets.specs.Bytes.{same}
use Rattle.octets.proofs.Sames.{same-pointwise, same_flip, past_end}
use Rattle.octets.proofs.stands_at.Goals as goal

pub returns-in-Some : goal.returns-in-Some
returns-in-Some c =
    let a = c.args in
    let t = a.t.now in
    let r = c.in-Some.ensures.lookup.0.2 ∙ take_rest a.s.now a.at in
    c.starts_with.ensures.value ∙ same-pointwise t _ ∙ same_flip t _ ∙ ap (λ (x : List ℕ). same (take (length t) x) t) r

pub returns-in-None : goal.returns-in-None
returns-in-None c =
    let a = c.args in
    let m : length a.s.now < a.at = ⊎_elim (λ p. omega arith) (λ p. omega arith) c.in-None.ensures.lookup.0 in
    c.is_empty.ensures ∙ past_end a.t.now a.s.now a.at m
