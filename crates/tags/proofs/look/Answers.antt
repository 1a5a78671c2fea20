-- An attribute is taken where the way of its name ends at a free cell.
use Rattle.std.proofs.Common.{rules, ◌≡◌, refl, ◌∙◌, ℕ, List, ◌-◌, Option, Some, None, is_some}
use Rattle.octets.specs.Bytes.{pick, part}
use Rattle.pieces.specs.declared.Step.TheVariants.{Go, Stuck}
use Rattle.tags.specs.Attributes.{attr_at}
use Rattle.tags.specs.WorkingTree.{way, apart, passed, looked, look_at}
use Rattle.tags.specs.declared.Attr.{Attr}
use Rattle.tags.specs.declared.Attr.TheVariants.{Of, Last, Bad}
use Rattle.tags.proofs.look.Goals as goal

free : (x : Option ℕ) (w : ℕ) → pick (is_some x) (Go w) Stuck ≡ apart x w
unfolding apart
free (Some v) w = refl
free None w = refl

as_looked : (s t : List ℕ) (x : Attr) → passed s (λ w j. is_some (way s t w)) x ≡ looked s t x
unfolding passed looked
as_looked s t (Of j e v w) = free (way s t (part s j (e - j))) w
as_looked s t (Last j) = refl
as_looked s t Bad = refl

pub returns : goal.returns
unfolding look_at
returns c =
    let s = c.args.s.now in
    let t = c.args.t.now in
    c.pass.ensures (λ w j. is_some (way s t w)) (λ w j r m. search rules) ∙ as_looked s t (attr_at s c.args.i)
