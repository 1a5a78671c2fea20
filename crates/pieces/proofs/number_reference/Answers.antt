-- Each return is the first test of the definition that fails, or that all of them hold.
use Rattle.std.proofs.Common.{rules, refl, Bool, false, ◌+◌, ◌≡◌, sym, ◌∙◌, ◌-◌, ◌<◌, true, length, arith, lit<}
use Rattle.std.specs.Bool.{then_some}
use Rattle.pieces.specs.Pieces.{number_at}
use borrow.Author.Tests.{ne_eqb}
use Rattle.octets.specs.Bytes.{byte_at}
use Rattle.octets.specs.Scan.{past}
use Rattle.octets.proofs.Scans.{scan-ge}
use Rattle.octets.proofs.Tests.{below-between, above-between}
use Rattle.pieces.specs.Classes.{is_figure}
use Rattle.pieces.proofs.Words.{inside_is}
use Rattle.pieces.proofs.Inside.{no-figure}
use Rattle.pieces.proofs.Numerals.{number-not, number_is}
use Rattle.pieces.proofs.number_reference.Goals as goal
use Rattle.pieces.proofs.number_reference.Goals.{then-e-at-via-then-e-at, then-e-at-via-else-e-at+then-e-at-gt7, then-e-at-via-else-e-at+else-e-at-gt7+then-byte-ne59}

pub past-e-requires-clause-not_past_end : goal.past-e-requires-clause-not_past_end
unfolding is_figure
past-e-requires-clause-not_past_end c = λ h. let e : true ≡ is_figure c.args.base 0 = search rules in no-figure c.args.base c.requires e

pub overflow_sub-e : goal.overflow_sub-e
unfolding is_figure
overflow_sub-e c =
    let e : c.past-e.result ≡ past (is_figure c.args.base) c.args.s.now c.args.at = search rules in
    let g = scan-ge (λ j. is_figure c.args.base (byte_at c.args.s.now j)) (length c.args.s.now) c.args.at in
    omega (arith, e, g)

pub returns-then-e-at : goal.returns-then-e-at
unfolding is_figure
returns-then-e-at c =
    let s = c.args.s.now in
    let i = c.args.at in
    let base = c.args.base in
    let z = c.past-e.result in
    let e : z ≡ past (is_figure base) s i = search rules in
    elim c.then-e-at.branch [
      | then-e-at-via-then-e-at w ↦ number-not base s i z e 0 (below-between 1 7 (z - i) (omega (arith, w.if-e-at.true)))
      | then-e-at-via-else-e-at+then-e-at-gt7 w ↦ number-not base s i z e 0 (above-between 1 7 (z - i) w.if-e-at-gt7.true)
      | then-e-at-via-else-e-at+else-e-at-gt7+then-byte-ne59 w ↦ number-not base s i z e 1 (ne_eqb (byte_at s z) 59 (λ x. w.if-byte-ne59.true (w.byte.ensures ∙ x)))
    ]

pub slice_bounds-numeral-count : goal.slice_bounds-numeral-count
unfolding is_figure
slice_bounds-numeral-count c =
    let e : c.past-e.result ≡ past (is_figure c.args.base) c.args.s.now c.args.at = search rules in
    let g = scan-ge (λ j. is_figure c.args.base (byte_at c.args.s.now j)) (length c.args.s.now) c.args.at in
    omega (arith, e, g)

pub slice_bounds-numeral-start : goal.slice_bounds-numeral-start
unfolding is_figure
slice_bounds-numeral-start c =
    let s = c.args.s.now in
    let e : c.past-e.result ≡ past (is_figure c.args.base) s c.args.at = search rules in
    let g = scan-ge (λ j. is_figure c.args.base (byte_at s j)) (length s) c.args.at in
    let h : c.past-e.result < length s = inside_is s c.past-e.result 59 (lit< tt) (omega (arith, c.byte.ensures)) in
    omega (arith, e, g, h)

pub returns : goal.returns
unfolding is_figure
returns c = c.then_some.ensures ∙ go c.is_legal.result refl
  where
    go : (b : Bool) → c.is_legal.result ≡ b → then_some b (c.numeral-v.result, c.past-e.result + 1) ≡ number_at c.args.base c.args.s.now c.args.at
    go true q =
        let s = c.args.s.now in
        let e : c.past-e.result ≡ past (is_figure c.args.base) s c.args.at = search rules in
        let g = scan-ge (λ j. is_figure c.args.base (byte_at s j)) (length s) c.args.at in
        number_is c.args.base s c.args.at c.past-e.result e c.numeral-v.result c.numeral-v.ensures (omega (arith, e, g)) (omega arith) (omega (arith, c.byte.ensures)) (sym c.is_legal.ensures ∙ q)
    go false q =
        let s = c.args.s.now in
        let e : c.past-e.result ≡ past (is_figure c.args.base) s c.args.at = search rules in
        number-not c.args.base s c.args.at c.past-e.result e 2 (rw (← c.numeral-v.ensures) (sym c.is_legal.ensures ∙ q))
