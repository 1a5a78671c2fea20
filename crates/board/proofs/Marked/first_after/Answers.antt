use Rattle.slots.specs.Slots.{recs}
use Rattle.ledger.specs.WorkingScan.{after}
use Rattle.board.proofs.Finds.{best-start}
use Rattle.board.proofs.Marked.first_after.Goals as goal

pub loop-i-init : goal.loop-i-init
loop-i-init c = (best-start c.args.self.now.n (after (recs c.args.self.now.n c.args.self.now.s.now) c.args.last.now), record {})
