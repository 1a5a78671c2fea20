-- The front of a value of three characters is the whole value, and no other is an originator.
use mathlib.Core.Path.{◌≡◌, ap, ◌∙◌}
use borrow.Author.Tests.{eq-eqb, ne_eqb}
use lib.ListN.{length}
use Rattle.values.specs.Value.{value_at}
use Rattle.parts.specs.Originator.{originator_of}
use Rattle.judgement.specs.WorkingRules.{origin_of}
use Rattle.judgement.proofs.Codes.{three-of, three_back, origin-low, origin-other}
use Rattle.judgement.proofs.origin_of.Goals as goal

pub returns-then-l-eq0 : goal.returns-then-l-eq0
unfolding origin_of
returns-then-l-eq0 c = rw (eq-eqb _ _ c.if-l-eq0.true)

pub returns-then-code-ne3 : goal.returns-then-code-ne3
unfolding origin_of
returns-then-code-ne3 c =
    let a = c.args in
    let v = value_at a.s.now a.l.at in
    let other : length v ≡ 3 → ⊥ = λ h. c.if-code-ne3.true (three-of v _ c.front-code.ensures h) in
    rw (ne_eqb _ _ c.if-l-eq0.false, origin-other v other)

pub returns : goal.returns
unfolding origin_of
returns c =
    let a = c.args in
    let v = value_at a.s.now a.l.at in
    let code = three_back v _ c.front-code.ensures c.if-code-ne3.false in
    rw (ne_eqb _ _ c.if-l-eq0.false) (c.originator_of.ensures ∙ ap originator_of code ∙ origin-low v)
