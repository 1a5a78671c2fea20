-- Its unused fields, and its header with its year.
use Rattle.std.proofs.Common.{◌≡◌, ◌&&◌, rules, ◌∙◌}
use Rattle.records.specs.Record.{key, aired_in, behind, zeros, dated_ok}
use Rattle.records.proofs.Judging.{asked, not-asked, third-decides, third-not-asked}
use Rattle.records.proofs.is_aired.Goals as goal
use Rattle.records.proofs.is_aired.Goals.{then-are_zeros, else-are_zeros}

pub returns-then-is_dated : goal.returns-then-is_dated
unfolding key aired_in behind
returns-then-is_dated c =
    let r = c.args.r.now in
    let both : c.if-are_zeros.value ≡ (zeros (key r) && dated_ok (aired_in r)) = elim c.if-are_zeros.branch [ then-are_zeros w ↦ search (rules, asked) | else-are_zeros w ↦ search (rules, not-asked) ] in
    c.are_zeros-then-is_dated.ensures ∙ third-decides _ _ _ both c.if-is_dated.true _

pub returns-else-is_dated : goal.returns-else-is_dated
unfolding key aired_in behind
returns-else-is_dated c =
    let r = c.args.r.now in
    let both : c.if-are_zeros.value ≡ (zeros (key r) && dated_ok (aired_in r)) = elim c.if-are_zeros.branch [ then-are_zeros w ↦ search (rules, asked) | else-are_zeros w ↦ search (rules, not-asked) ] in
    third-not-asked _ _ _ both c.if-is_dated.false _
