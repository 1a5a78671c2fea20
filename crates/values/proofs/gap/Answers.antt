use Rattle.std.proofs.Common.{◌∙◌, sym, ap, rules, not}
use Rattle.octets.specs.Bytes.{is_space}
use Rattle.values.proofs.Steps.{gap_by, gap-first}
use Rattle.values.proofs.gap.Goals as goal

pub returns-in_err-f : goal.returns-in_err-f
returns-in_err-f c = let a = c.args in let e = c.first.ensures (λ x. not (is_space x)) (search rules) in
    c.from_residual.ensures ∙ ap (gap_by a.s.now) (sym (c.in_err-f.was) ∙ e) ∙ gap-first a.s.now a.at

pub returns : goal.returns
returns c = let a = c.args in let e = c.first.ensures (λ x. not (is_space x)) (search rules) in
    ap (gap_by a.s.now) (sym (c.in_ok-f.was) ∙ e) ∙ gap-first a.s.now a.at
