use Rattle.std.proofs.Common.{◌≡◌, sym, ◌∙◌, arith, get_or}
use Rattle.pieces.specs.Classes.{figure_of}
use Rattle.pieces.proofs.Numerals.{cap-six, cap-seven, cap-next, times-under, numeral-more, numeral-done}
use Rattle.pieces.proofs.numeral.Goals as goal

pub overflow_mul-v : goal.overflow_mul-v
overflow_mul-v c =
    let k = c.loop-b.b-index in
    let a = c.loop-b.invariant.0 in
    let h = cap-six k (omega arith) in
    let m = times-under c.loop-b.v c.from.result (omega arith) in
    omega arith

pub overflow_add-v : goal.overflow_add-v
overflow_add-v c =
    let k = c.loop-b.b-index in
    let a = c.loop-b.invariant.0 in
    let m = cap-next k c.loop-b.v c.from.result (get_or c.args.digits.now k 0) (omega arith) a in
    let t = cap-seven k (omega arith) in
    let q : c.from-in-loop-b.result ≡ figure_of (get_or c.args.digits.now k 0) = cc in
    omega arith

pub loop-b-preserved : goal.loop-b-preserved
loop-b-preserved c =
    let s = c.args.digits.now in
    let k = c.loop-b.b-index in
    let v = c.loop-b.v in
    let a = c.loop-b.invariant.0 in
    let m = cap-next k v c.from.result (get_or s k 0) (omega arith) a in
    let q : c.from-in-loop-b.result ≡ figure_of (get_or s k 0) = cc in
    let b : c.from.result ≡ c.args.base = cc in
    (rw q m, rw (q, b) (sym (numeral-more c.args.base v s k (omega arith)) ∙ c.loop-b.invariant.1))

pub returns : goal.returns
returns c = sym (numeral-done c.args.base c.loop-b.v c.args.digits.now c.loop-b.b-index (omega arith)) ∙ c.loop-b.invariant.1
