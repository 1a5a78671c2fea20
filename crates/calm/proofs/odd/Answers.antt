-- Where all four tests give 0 the byte is a mark, by `odd-mark`.
use Rattle.calm.proofs.Marks.{odd-mark}
use Rattle.calm.proofs.odd.Goals as goal

pub returns-clause-b_value : goal.returns-clause-b_value
returns-clause-b_value c =
    odd-mark c.args.b _ _ _ _ c.under.ensures.value c.under-2.ensures.value c.equals.ensures.value c.equals-2.ensures.value
