use mathlib.Core.Path.{sym, ◌∙◌}
use native.Mathlib.Omega.{arith}
use Rattle.values.proofs.Steps.{step-more}
use Rattle.fields.proofs.Words.{word-starts, word-done, word-space, word_more}
use Rattle.fields.proofs.next_word.Goals as goal

pub loop-c-init : goal.loop-c-init
loop-c-init c = word-starts _ _ _

pub returns-then-c-eq32 : goal.returns-then-c-eq32
returns-then-c-eq32 c = let both = word-space c.loop-c.invariant _ _ (sym c.step.ensures ∙ c.in-Some.is) c.if-c-eq32.true in record { value = both.0; out_after = both.1 }

pub overflow_add-k : goal.overflow_add-k
overflow_add-k c =
    let m = (step-more _ _ _ _ (sym c.step.ensures ∙ c.in-Some.is)).1 in
    omega (arith, m.on, m.in-it, c.loop-c.invariant.counts)

pub loop-c-smaller : goal.loop-c-smaller
loop-c-smaller c =
    let m = (step-more _ _ _ _ (sym c.step.ensures ∙ c.in-Some.is)).1 in
    omega (arith, m.on, m.in-it)

pub loop-c-preserved : goal.loop-c-preserved
loop-c-preserved c =
    word_more c.loop-c.invariant _ _ (sym c.step.ensures ∙ c.in-Some.is) c.if-c-eq32.false _ _ c.low_of.ensures c.keep.ensures

pub returns : goal.returns
returns c = let both = word-done c.loop-c.invariant (sym c.step.ensures ∙ c.in_default.is) in record { value = both.0; out_after = both.1 }
