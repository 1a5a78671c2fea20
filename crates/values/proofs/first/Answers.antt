use Rattle.std.proofs.Common.{◌∙◌, sym, arith}
use Rattle.values.proofs.Folds.{char-forth, over-forth}
use Rattle.values.proofs.Steps.{first-here, first-past, first-over, first-last}
use Rattle.values.proofs.first.Goals as goal

pub returns-then-stops : goal.returns-then-stops
returns-then-stops g c = λ p h.
    sym (first-here _ p _ _ _ (sym c.look.ensures ∙ c.in-Char.is) (sym (h _ _ c.stops.ensures) ∙ c.if-stops.true)) ∙ c.loop-c.invariant p h

pub loop-c-smaller-in-Char : goal.loop-c-smaller-in-Char
loop-c-smaller-in-Char g c = let m = char-forth _ _ _ _ (sym c.look.ensures ∙ c.in-Char.is) in omega (arith, m.on, m.in-it)

pub loop-c-preserved-in-Char : goal.loop-c-preserved-in-Char
loop-c-preserved-in-Char g c = λ p h.
    sym (first-past _ p _ _ _ (sym c.look.ensures ∙ c.in-Char.is) (sym (h _ _ c.stops.ensures) ∙ c.if-stops.false)) ∙ c.loop-c.invariant p h

pub loop-c-smaller : goal.loop-c-smaller
loop-c-smaller g c = let m = over-forth _ _ _ (sym c.look.ensures ∙ c.in-Over.is) in omega (arith, m.on, m.in-it)

pub loop-c-preserved : goal.loop-c-preserved
loop-c-preserved g c = λ p h. sym (first-over _ p _ _ (sym c.look.ensures ∙ c.in-Over.is)) ∙ c.loop-c.invariant p h

pub returns-in-Last : goal.returns-in-Last
returns-in-Last g c = λ p h. sym (first-last _ p _ (sym c.look.ensures ∙ c.in-Last.is)) ∙ c.loop-c.invariant p h
