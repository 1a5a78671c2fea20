-- An attribute is taken where the search before it finds none of its name.
use Rattle.std.proofs.Common.{rules, ◌≡◌, refl, ◌∙◌, ℕ, List, ◌-◌, Option, Some, None, is_none}
use Rattle.octets.specs.Bytes.{pick, part}
use Rattle.pieces.specs.declared.Step.TheVariants.{Go, Stuck}
use Rattle.tags.specs.Attributes.{attr_at, attr_named}
use Rattle.tags.specs.Tags.{unless_named, taken, take_at}
use Rattle.tags.specs.WorkingTree.{passed}
use Rattle.tags.specs.declared.Attr.{Attr}
use Rattle.tags.specs.declared.Attr.TheVariants.{Of, Last, Bad}
use Rattle.tags.proofs.take.Goals as goal

unnamed : (x : Option ℕ) (w : ℕ) → pick (is_none x) (Go w) Stuck ≡ unless_named x w
unfolding unless_named
unnamed (Some v) w = refl
unnamed None w = refl

as_taken : (s : List ℕ) (a : ℕ) (x : Attr) → passed s (λ w j. is_none (attr_named s w a j)) x ≡ taken s a x
unfolding passed taken
as_taken s a (Of j e v w) = unnamed (attr_named s (part s j (e - j)) a j) w
as_taken s a (Last j) = refl
as_taken s a Bad = refl

pub returns : goal.returns
unfolding take_at
returns c =
    let s = c.args.s.now in
    let a = c.args.a in
    c.pass.ensures (λ w j. is_none (attr_named s w a j)) (λ w j r m. search rules) ∙ as_taken s a (attr_at s c.args.i)
