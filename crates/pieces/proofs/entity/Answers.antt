use Rattle.std.proofs.Common.{sym, ◌∙◌, arith}
use Rattle.octets.proofs.Sames.{stands-in}
use Rattle.pieces.proofs.entity.Goals as goal

pub overflow_add-result : goal.overflow_add-result
overflow_add-result c =
    let a = c.args in
    let l = stands-in a.word.now a.s.now a.at (sym c.stands_at.ensures ∙ c.if-stands_at.true) c.requires in
    omega (arith, l)
