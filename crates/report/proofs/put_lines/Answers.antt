-- The first line alone after a refusal, else the others behind it.
use mathlib.Core.Path.{◌≡◌}
use native.Mathlib.Omega.{arith}
use lib.ListN.{length-append}
use borrow.Author.Rules.{rules}
use Rattle.sentence.proofs.Writers.{then, named}
use Rattle.report.proofs.Choices.{lines-alone, lines-all}
use Rattle.report.specs.Lines.{lines_of}
use Rattle.report.proofs.put_lines.Goals as goal

pub put_number-requires : goal.put_number-requires
unfolding lines_of
put_number-requires c = omega (arith, simp length-append at c.requires)

pub returns-then-number-ne0 : goal.returns-then-number-ne0
returns-then-number-ne0 c =
    let all = named c.put_number.ensures _ (lines-alone _ _ c.args.header.now c.args.audio c.args.uri.now c.args.carry c.args.text.now c.if-number-ne0.true) in
    search (rules, all.ends, all.is, all.same)

pub put_alert-requires : goal.put_alert-requires
put_alert-requires c =
    let zero : c.args.number ≡ 0 = c.if-number-ne0.false in
    omega (arith, simp length-append at (rw lines-all at c.requires))

pub returns : goal.returns
returns c =
    let all = named (then c.put_number.ensures c.put_alert.ensures) _ (lines-all _ _ _ _ _ _ _ c.if-number-ne0.false) in
    search (rules, all.ends, all.is, all.same)
