use mathlib.Core.Path.{sym, ap, ◌∙◌}
use Rattle.std.proofs.Common.{option_map}
use Rattle.words.proofs.Places.{over, cut, hit, miss}
use Rattle.words.proofs.first.Goals as goal

pub returns-in_err-word : goal.returns-in_err-word
returns-in_err-word g c = λ p h.
    let l = c.loop-k in
    ap (option_map (λ f. (f.0, f.1.now))) c.from_residual.ensures ∙ cut p _ _ l.k (l.invariant p h) _ c.loop-k-test.true c.from.ensures c.in_err-word.ensures.cases

pub returns-then-takes : goal.returns-then-takes
returns-then-takes g c = λ p h.
    let l = c.loop-k in
    hit p _ _ l.k (l.invariant p h) _ c.loop-k-test.true c.from.ensures _ _ c.in_ok-word.ensures.cases (sym (h _ _ _ c.takes.ensures) ∙ c.if-takes.true)

pub loop-k-preserved : goal.loop-k-preserved
loop-k-preserved g c = λ p h.
    let l = c.loop-k in
    miss p _ _ l.k (l.invariant p h) _ c.loop-k-test.true c.from.ensures _ _ c.in_ok-word.ensures.cases (sym (h _ _ _ c.takes.ensures) ∙ c.if-takes.false)

pub returns : goal.returns
returns g c = λ p h. let l = c.loop-k in over p _ _ l.k (l.invariant p h) c.loop-k-test.false
