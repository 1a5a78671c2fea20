-- Each record is before the next, as the closure tests them.
use Rattle.std.proofs.Common.{rules, tests}
use Rattle.std.specs.Ordering.{is_lt}
use Rattle.std.proofs.lemmas.List.Sorted.{answers_always}
use Rattle.octets.specs.Order.{cmp}
use Rattle.board.proofs.Boards.{ascending-told}
use Rattle.board.proofs.is_ascending.Goals as goal

pub returns : goal.returns
returns c = ascending-told _ _ (rw c.first.ensures at (c.is_sorted_by.ensures.cases (λ x y. is_lt (cmp x y)) (answers_always _ _ _ (λ f a r q k. search (rules, tests)))))
