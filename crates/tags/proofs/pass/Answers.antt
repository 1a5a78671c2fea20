-- The next attribute's answer decides, and then what is asked of its name.
use Rattle.std.proofs.Common.{◌≡◌, sym, ◌∙◌, ℕ, List, arith}
use Rattle.tags.specs.Attributes.{attr_at}
use Rattle.tags.specs.WorkingTree.{passed}
use Rattle.tags.specs.declared.Attr.TheVariants.{Of}
use Rattle.tags.proofs.Goes.{Read, attr-read}
use Rattle.tags.proofs.pass.Goals as goal

-- an attribute that was read stays inside
inside : (s : List ℕ) (i : ℕ) {j e v w : ℕ} {x : _} → x ≡ attr_at s i → x ≡ Of j e v w → Read s i j e w
inside s i p q = attr-read s i _ _ _ _ (sym p ∙ q)

pub slice_bounds-takes-count : goal.slice_bounds-takes-count
slice_bounds-takes-count g c = let r = inside _ _ c.attribute.ensures c.in-Of.is in omega (arith, r.some)

pub slice_bounds-takes-start : goal.slice_bounds-takes-start
slice_bounds-takes-start g c = let r = inside _ _ c.attribute.ensures c.in-Of.is in omega (arith, r.some, r.on, r.in-it)

pub slice_bounds-takes-end : goal.slice_bounds-takes-end
slice_bounds-takes-end g c = let r = inside _ _ c.attribute.ensures c.in-Of.is in omega (arith, r.some, r.on, r.in-it)

pub returns-then-takes : goal.returns-then-takes
unfolding passed
returns-then-takes g c = λ p h. rw (sym c.attribute.ensures ∙ c.in-Of.is, sym (h _ _ _ c.takes.ensures) ∙ c.if-takes.true)

pub returns-in-Of : goal.returns-in-Of
unfolding passed
returns-in-Of g c = λ p h. rw (sym c.attribute.ensures ∙ c.in-Of.is, sym (h _ _ _ c.takes.ensures) ∙ c.if-takes.false)

pub returns-in-Last : goal.returns-in-Last
unfolding passed
returns-in-Last g c = λ p h. rw (sym c.attribute.ensures ∙ c.in-Last.is)

pub returns : goal.returns
unfolding passed
returns g c = λ p h. rw (sym c.attribute.ensures ∙ c.in-Bad.is)
