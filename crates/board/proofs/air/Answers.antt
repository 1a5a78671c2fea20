-- The aired record of its header is the one that is added.
use Prim.Native.Nat.{ℕ, ◌*◌}
use mathlib.Core.Path.{ap, ◌∙◌}
use native.Mathlib.Omega.{arith}
use mathlib.Core.List.{◌++◌}
use lib.ListN.{drop}
use Rattle.ledger.specs.Sorted.{insert}
use Rattle.ledger.proofs.Sorts.{insert-length}
use Rattle.slots.specs.WorkingSlots.{flat}
use Rattle.slots.specs.Slots.{recs}
use Rattle.slots.proofs.Records.{recs-length}
use Rattle.board.specs.WorkingRules.{added}
use borrow.Author.Rules.{rules}
use Rattle.board.proofs.air.Goals as goal

pub add-requires : goal.add-requires
add-requires c =
    (omega (arith, c.requires), omega (arith, c.requires, insert-length c.aired_at-aired.result.bytes (recs c.args.n c.args.s.now), recs-length c.args.n c.args.s.now), search rules)

pub returns : goal.returns
returns c =
    let a = c.args in
    c.add.ensures.s_after ∙ ap (λ (m : ℕ). flat (insert c.aired_at-aired.result.bytes (recs a.n a.s.now)) ++ drop (m * 384) a.s.now) c.add.ensures.value ∙ ap (added a.s.now a.n) c.aired_at-aired.ensures
