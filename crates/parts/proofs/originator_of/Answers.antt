-- The first of the four whose three bytes stand there.
use Prim.Native.Nat.{ℕ}
use mathlib.Core.Bool.{Bool, true, false, cond}
use mathlib.Core.List.{List, [], ◌∷◌}
use mathlib.Core.Path.{◌≡◌, refl, ◌∙◌}
use Rattle.octets.specs.Bytes.{pick, part, stands}
use Rattle.octets.specs.Text.{bytes}
use Rattle.parts.specs.Originator.{originator_bytes, originator_of}
use Rattle.parts.specs.declared.Originator.TheVariants.{Pep, Eas, Wxr, Civ}
use Rattle.std.proofs.Common.{rules, tests}
use Rattle.std.proofs.lemmas.Iterator.{YieldsList-from_slice}
use Rattle.std.proofs.lemmas.Iterator.Search.{find_from_yields_List}
use Rattle.std.specs.List.{find}
use Rattle.parts.proofs.originator_of.Goals as goal

cond-is : {A : Type 0} (b : Bool) (x y : A) → cond b x y ≡ pick b x y
cond-is true x y = refl
cond-is false x y = refl

found-is : (s : List ℕ) (at : ℕ) → find (λ o. stands (originator_bytes o) s at) (Pep ∷ Eas ∷ Wxr ∷ Civ ∷ []) ≡ originator_of (part s at 3)
unfolding originator_of originator_bytes bytes
found-is s at = simp cond-is

pub returns : goal.returns
returns c =
    let s = c.args.s.now in
    let at = c.args.at in
    let e = find_from_yields_List (λ o. stands (originator_bytes o) s at) _ _ c.find.result c.find.ensures.ran (YieldsList-from_slice (Pep ∷ Eas ∷ Wxr ∷ Civ ∷ []) c.iter.ensures.rest) (λ x b q k. search (rules, tests)) in
    c.copied.ensures ∙ e ∙ found-is s at
