-- A mark, or white space with a mark behind it.
use mathlib.Core.Path.{sym, ap, ◌∙◌}
use native.Mathlib.Omega.{arith}
use Rattle.octets.specs.Bytes.{is_space}
use Rattle.calm.specs.WorkingCalm.{is_mark}
use Rattle.calm.proofs.Marks.{calm-mark, calm-not, calm-white}
use Rattle.calm.proofs.Calms.{white-in}
use Rattle.calm.proofs.is_calm.Goals as goal

pub overflow_add-i : goal.overflow_add-i
overflow_add-i c =
    let a = c.args in
    omega (arith, white-in a.s.now a.i (ap is_space (sym c.byte-b.ensures) ∙ sym c.is_space.ensures ∙ c.if-is_space.true))

pub returns-then-is_mark : goal.returns-then-is_mark
returns-then-is_mark c =
    c.if-is_mark.true ∙ sym (calm-mark _ _ (ap is_mark (sym c.byte-b.ensures) ∙ sym c.is_mark.ensures ∙ c.if-is_mark.true))

pub returns-then-is_space : goal.returns-then-is_space
returns-then-is_space c =
    let m = ap is_mark (sym c.byte-b.ensures) ∙ sym c.is_mark.ensures ∙ c.if-is_mark.false in
    let w = ap is_space (sym c.byte-b.ensures) ∙ sym c.is_space.ensures ∙ c.if-is_space.true in
    c.is_mark-then-is_space.ensures ∙ ap is_mark c.byte.ensures ∙ sym (calm-white _ _ m w)

pub returns-else-is_space : goal.returns-else-is_space
returns-else-is_space c =
    let m = ap is_mark (sym c.byte-b.ensures) ∙ sym c.is_mark.ensures ∙ c.if-is_mark.false in
    let w = ap is_space (sym c.byte-b.ensures) ∙ sym c.is_space.ensures ∙ c.if-is_space.false in
    c.if-is_space.false ∙ sym (calm-not _ _ m w)
