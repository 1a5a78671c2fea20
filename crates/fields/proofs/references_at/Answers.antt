use Prim.Native.Nat.{ℕ, ◌-◌, ◌+◌}
use mathlib.Core.Path.{◌≡◌, ap₂, ◌∙◌}
use native.Mathlib.Omega.{arith}
use Rattle.values.specs.WorkingSteps.{rest_at}
use Rattle.fields.specs.References.{words}
use Rattle.fields.proofs.Words.{more-is, last-is}
use Rattle.fields.proofs.Lists.{fine, fine-starts, fine-not, fine-last, fine_more, fine-over, asked}
use Rattle.fields.proofs.references_at.Goals as goal

pub loop-init : goal.loop-init
loop-init c = rw c.lead-i.ensures (fine-starts _ _)

pub returns-then-not-is_some_and : goal.returns-then-not-is_some_and
returns-then-not-is_some_and c =
    let w = c.next_word-w.ensures in
    fine-not _ _ _ _ c.loop.invariant (asked _ _ _ _ w.value w.out_after _ _ c.get.ensures.lookup c.is_some_and.ensures ∙ c.if-not-is_some_and.true)

pub returns-in-None : goal.returns-in-None
returns-in-None c =
    let w = c.next_word-w.ensures in
    let ok = asked _ _ _ _ w.value w.out_after _ _ c.get.ensures.lookup c.is_some_and.ensures ∙ c.if-not-is_some_and.false in
    fine-last _ _ _ _ c.loop.invariant (omega arith) ok (last-is _ _ _ w.value c.in-None.is)

pub loop-preserved : goal.loop-preserved
loop-preserved c =
    let s = c.args.s.now in
    let w = c.next_word-w.ensures in
    let ok = asked _ _ _ _ w.value w.out_after _ _ c.get.ensures.lookup c.is_some_and.ensures ∙ c.if-not-is_some_and.false in
    let m = more-is _ _ _ w.value c.in-Some.j c.in-Some.is in
    let k : 16 - (c.loop.counter + 1) ≡ 16 - c.loop.counter - 1 = omega arith in
    ap₂ (λ (n j : ℕ). fine n (words (rest_at s j))) k m.1 ∙ fine_more _ _ _ _ c.loop.invariant (omega arith) ok m.0

pub returns : goal.returns
returns c = fine-over _ _ _ _ c.loop.invariant (omega arith)
