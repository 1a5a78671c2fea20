-- By the tests in their order; a test that fails decides, and at the end the last one does.
use Rattle.std.proofs.Common.{◌≡◌, ◌&&◌, length, rules}
use native.Mathlib.Omega.{arith}
use borrow.Author.Tests.{ne_eqb}
use Rattle.octets.specs.Bytes.{every}
use Rattle.octets.proofs.Tests.{below-between, above-between}
use Rattle.records.specs.Record.{record_ok}
use Rattle.records.proofs.Judging.{asked, not-asked}
use Rattle.ledger.specs.Sorted.{ascending}
use Rattle.slots.specs.Slots.{recs}
use Rattle.board.proofs.Boards.{within, board-broken, rules-last, rules-broken}
use Rattle.board.proofs.keeps_rules.Goals as goal
use Rattle.board.proofs.keeps_rules.Goals.{then-is_ascending, else-is_ascending, then-len-lt-SIZE-via-then-len-lt-SIZE, then-len-lt-SIZE-via-else-len-lt-SIZE+then-len-gt-BYTES, then-len-lt-SIZE-via-else-len-lt-SIZE+else-len-gt-BYTES+then-len-ne0}

pub returns-then-len-lt-SIZE : goal.returns-then-len-lt-SIZE
returns-then-len-lt-SIZE c =
    let s = c.args.s.now in
    elim c.then-len-lt-SIZE.branch [
      | then-len-lt-SIZE-via-then-len-lt-SIZE w ↦ board-broken 0 s (below-between 384 65280 (length s) w.if-len-lt-SIZE.true)
      | then-len-lt-SIZE-via-else-len-lt-SIZE+then-len-gt-BYTES w ↦ board-broken 0 s (above-between 384 65280 (length s) w.if-len-gt-BYTES.true)
      | then-len-lt-SIZE-via-else-len-lt-SIZE+else-len-gt-BYTES+then-len-ne0 w ↦ board-broken 1 s (ne_eqb _ 0 w.if-len-ne0.true)
    ]

pub is_ascending-requires : goal.is_ascending-requires
is_ascending-requires c = within c.args.s.now c.args.n c.requires

pub are_records-requires : goal.are_records-requires
are_records-requires c = within c.args.s.now c.args.n c.requires

pub overflow_mul-n : goal.overflow_mul-n
overflow_mul-n c = omega (arith, within c.args.s.now c.args.n c.requires)

pub slice_bounds-are_zeros-count : goal.slice_bounds-are_zeros-count
slice_bounds-are_zeros-count c = within c.args.s.now c.args.n c.requires

pub slice_bounds-are_zeros-start : goal.slice_bounds-are_zeros-start
slice_bounds-are_zeros-start c = omega (arith, within c.args.s.now c.args.n c.requires)

pub returns-then-are_records : goal.returns-then-are_records
returns-then-are_records c =
    let b = recs c.args.n c.args.s.now in
    let both : c.if-is_ascending.value ≡ (ascending b && every record_ok b) = elim c.if-is_ascending.branch [ then-is_ascending w ↦ search (rules, asked) | else-is_ascending w ↦ search (rules, not-asked) ] in
    rules-last c.args.s.now c.args.n c.requires _ both c.if-are_records.true c.if-len-lt-SIZE.false c.if-len-gt-BYTES.false c.if-len-ne0.false _ c.are_zeros.ensures

pub returns-else-are_records : goal.returns-else-are_records
returns-else-are_records c =
    let b = recs c.args.n c.args.s.now in
    let both : c.if-is_ascending.value ≡ (ascending b && every record_ok b) = elim c.if-is_ascending.branch [ then-is_ascending w ↦ search (rules, asked) | else-is_ascending w ↦ search (rules, not-asked) ] in
    rules-broken c.args.s.now c.args.n c.requires _ both c.if-are_records.false
