-- One record more: it carries an earlier header, or the best so far stays.
use mathlib.Core.Path.{sym, ◌∙◌}
use native.Mathlib.Omega.{arith}
use Rattle.slots.specs.Slots.{recs}
use Rattle.ledger.specs.WorkingScan.{after}
use Rattle.board.proofs.Finds.{scan-passed, scan-first, scan-within, scan-less, scan-kept}
use Rattle.board.proofs.Marked.better.Goals as goal

pub returns-then-not-comes_after : goal.returns-then-not-comes_after
returns-then-not-comes_after c =
    let a = c.args in
    let s = a.self.now.s.now in
    let n = a.self.now.n in
    let p = after (recs n s) a.last.now in
    scan-passed p s n a.i a.best c.requires.best_value c.requires.below (sym c.comes_after.ensures ∙ c.if-not-comes_after.true)

pub returns-in_default : goal.returns-in_default
returns-in_default c =
    let a = c.args in
    let s = a.self.now.s.now in
    let n = a.self.now.n in
    let p = after (recs n s) a.last.now in
    scan-first p s n a.i a.best c.requires.best_value c.requires.below (sym c.comes_after.ensures ∙ c.if-not-comes_after.false) c.in_default.is

pub compare_headers-requires : goal.compare_headers-requires
compare_headers-requires c =
    let a = c.args in
    let s = a.self.now.s.now in
    let n = a.self.now.n in
    let p = after (recs n s) a.last.now in
    let w = scan-within p s n a.i a.best c.requires.best_value c.requires.below c.in-Some.j c.in-Some.is in
    (omega (arith, c.requires.below, a.self.now.within), omega (arith, c.requires.below, a.self.now.within, w))

pub returns-then-is_lt : goal.returns-then-is_lt
returns-then-is_lt c =
    let a = c.args in
    let s = a.self.now.s.now in
    let n = a.self.now.n in
    let p = after (recs n s) a.last.now in
    scan-less p s n a.i a.best c.requires.best_value c.requires.below c.in-Some.j c.in-Some.is (sym c.comes_after.ensures ∙ c.if-not-comes_after.false) _ c.compare_headers.ensures (sym c.is_lt.ensures ∙ c.if-is_lt.true)

pub returns : goal.returns
returns c =
    let a = c.args in
    let s = a.self.now.s.now in
    let n = a.self.now.n in
    let p = after (recs n s) a.last.now in
    scan-kept p s n a.i a.best c.requires.best_value c.requires.below c.in-Some.j c.in-Some.is (sym c.comes_after.ensures ∙ c.if-not-comes_after.false) _ c.compare_headers.ensures (sym c.is_lt.ensures ∙ c.if-is_lt.false)
