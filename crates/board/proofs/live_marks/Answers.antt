-- Each mark below n says whether its record is live.
use Rattle.std.proofs.Common.{◌≡◌, ◌<◌, ℕ, Bool, rules, tests, arith}
use Rattle.ledger.specs.WorkingBoard.{live}
use Rattle.slots.specs.WorkingSlots.{rec}
use Rattle.slots.specs.Slots.{recs}
use Rattle.board.proofs.Finds.{each-mark, marks-are}
use Rattle.board.proofs.live_marks.Goals as goal

pub returns : goal.returns
returns c =
    let a = c.args in
    let p = live (recs a.n a.s.now) in
    marks-are p a.s.now a.n c.from_fn.result (λ j h. each-mark _ (λ (i : ℕ) (t : Bool). i < a.n → t ≡ p (rec i a.s.now)) _ c.from_fn.result (λ i t q k. search (rules, tests)) 170 0 c.from_fn.ensures.items.each j (omega arith) (omega (arith, h, c.requires)) h)
