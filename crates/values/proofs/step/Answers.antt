-- A mark is a character as it stands, and white space before a mark is a space; anything else is what `slow` answers.
use Prim.Native.Nat.{ℕ, ◌+◌}
use mathlib.Core.Path.{◌≡◌, sym, ap, ◌∙◌}
use native.Mathlib.Omega.{arith}
use Rattle.calm.specs.WorkingCalm.{is_mark}
use Rattle.values.specs.WorkingSteps.{step_at}
use Rattle.std.specs.Prelude.{Some}
use Rattle.values.proofs.Steps.{step-more}
use Rattle.values.proofs.Loops.{mark-is}
use Rattle.values.proofs.Calms.{calm-space}
use Rattle.values.proofs.step.Goals as goal

mark : (c : goal.After-from) → let a = c.args in step_at a.s.now a.at ≡ Some (c.byte-b.result, a.at + 1)
mark c = mark-is _ _ _ _ c.byte-b.ensures c.is_mark.ensures c.if-is_mark.true

space : (c : goal.Then-is_calm) → let a = c.args in step_at a.s.now a.at ≡ Some (32, a.at + 1)
space c =
    calm-space _ _ (sym c.is_calm.ensures ∙ c.if-is_calm.true)
    (ap is_mark (sym c.byte-b.ensures) ∙ sym c.is_mark.ensures ∙ c.if-is_mark.false)

pub overflow_add-result : goal.overflow_add-result
overflow_add-result c = let l = (step-more _ _ _ _ (mark c)).1.in-it in omega arith

pub returns-then-is_mark : goal.returns-then-is_mark
returns-then-is_mark c = ap (λ (x : ℕ). Some (x, c.args.at + 1)) c.from.ensures ∙ sym (mark c)

pub overflow_add-result-then-is_calm : goal.overflow_add-result-then-is_calm
overflow_add-result-then-is_calm c = let l = (step-more _ _ _ _ (space c)).1.in-it in omega arith

pub returns-then-is_calm : goal.returns-then-is_calm
returns-then-is_calm c = sym (space c)
