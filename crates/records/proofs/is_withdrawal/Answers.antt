-- Its key and its unused fields in turn.
use Rattle.std.proofs.Common.{◌≡◌, ◌&&◌, rules, ◌∙◌}
use Rattle.records.specs.Record.{key, header, rest, key_ok, zeros}
use Rattle.records.proofs.Judging.{asked, not-asked, third-decides, third-not-asked}
use Rattle.records.proofs.is_withdrawal.Goals as goal
use Rattle.records.proofs.is_withdrawal.Goals.{then-is_key, else-is_key}

pub returns-then-are_zeros : goal.returns-then-are_zeros
unfolding key header rest
returns-then-are_zeros c =
    let r = c.args.r.now in
    let both : c.if-is_key.value ≡ (key_ok (key r) && zeros (header r)) = elim c.if-is_key.branch [ then-is_key w ↦ search (rules, asked) | else-is_key w ↦ search (rules, not-asked) ] in
    c.are_zeros-then-are_zeros.ensures ∙ third-decides _ _ _ both c.if-are_zeros.true _

pub returns-else-are_zeros : goal.returns-else-are_zeros
unfolding key header rest
returns-else-are_zeros c =
    let r = c.args.r.now in
    let both : c.if-is_key.value ≡ (key_ok (key r) && zeros (header r)) = elim c.if-is_key.branch [ then-is_key w ↦ search (rules, asked) | else-is_key w ↦ search (rules, not-asked) ] in
    third-not-asked _ _ _ both c.if-are_zeros.false _
