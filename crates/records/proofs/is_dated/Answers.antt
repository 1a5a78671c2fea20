-- The year is judged, then the header is read and its day is judged.
use Rattle.std.proofs.Common.{ℕ, ◌∙◌, sym, arith, rules}
use Rattle.std.proofs.lemmas.Map.Keys.{le_from_is_le}
use lib.Seq.{length-take-le}
use Rattle.records.specs.Record.{header_of}
use Rattle.records.proofs.Judging.{not-within, year-out, day-told}
use Rattle.records.proofs.is_dated.Goals as goal

pub slice_bounds-header_in-end : goal.slice_bounds-header_in-end
slice_bounds-header_in-end c = omega (arith, length-take-le {A = ℕ})

pub returns-then-contains : goal.returns-then-contains
unfolding header_of
returns-then-contains c =
    let within = c.if-contains.ensures.cases in
    let low = le_from_is_le 2000 _ (rw c.new.ensures.start at within.0) in
    let high = le_from_is_le _ 2099 (rw c.new.ensures.end at within.1) in
    day-told c.args.header.now _ c.year_in-year.ensures _ c.header_in.ensures low high _ (λ e. rw e at c.is_some_and.ensures) (λ body e. let h = rw e at c.is_some_and.ensures in search rules)

pub returns-else-contains : goal.returns-else-contains
unfolding header_of
returns-else-contains c =
    let n = c.new.ensures in
    let out = rw (n.start, n.end, n.exhausted) at c.if-contains.ensures.value in
    c.if-contains.false ∙ year-out c.args.header.now _ c.year_in-year.ensures (not-within 2000 2099 _ (sym out))
