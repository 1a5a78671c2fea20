-- As many of the chunks.
use Rattle.std.proofs.Common.{take, ap, ◌∙◌, arith}
use Rattle.slots.proofs.Records.{recs-chunks, recs-first}
use Rattle.slots.proofs.first.Goals as goal

pub returns : goal.returns
returns c =
    let s = c.args.s.now in
    let n = c.args.n in
    ap (take n) (c.as_chunks.ensures.front ∙ recs-chunks _ s) ∙ recs-first n _ s (omega arith)
