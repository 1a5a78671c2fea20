-- A mark is calm before any byte, and of white space the two that are told are calm before a mark.
use Rattle.calm.proofs.Marks.{calm-mark, stirs-space}
use Rattle.calm.proofs.stirs.Goals as goal

pub returns-then-equals-eq0-clause-c_value : goal.returns-then-equals-eq0-clause-c_value
returns-then-equals-eq0-clause-c_value c = λ z. calm-mark c.args.b c.args.c (c.odd-x.ensures.b_value z)

pub returns-else-equals-eq0-clause-c_value : goal.returns-else-equals-eq0-clause-c_value
returns-else-equals-eq0-clause-c_value c = λ z.
    stirs-space c.args.b c.args.c _ _ c.equals.ensures.value c.equals-2.ensures.value c.if-equals-eq0.false (c.odd-y.ensures.b_value z)
