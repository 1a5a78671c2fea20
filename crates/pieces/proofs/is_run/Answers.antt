-- By the range that the byte is in, between `]`, `<` and `&`, from the small letters down.
use mathlib.Core.Path.{◌≡◌, ◌∙◌}
use mathlib.Core.Bool.{or-false}
use native.Mathlib.Omega.{arith}
use borrow.Author.Tests.{ne_eqb, lt-ltb}
use Rattle.octets.specs.Bytes.{every, one_of, between}
use Rattle.characters.specs.Utf8.{is_legal, is_single}
use Rattle.characters.proofs.Legals.{single-low, single-high}
use Rattle.pieces.specs.WorkingClasses.{is_run}
use Rattle.pieces.proofs.Inside.{run-rest, run-basic}
use Rattle.pieces.proofs.is_run.Goals as goal

pub returns-then-b-gt93 : goal.returns-then-b-gt93
returns-then-b-gt93 c = let b = c.args.b in single-high b (omega arith) ∙ run-rest b (omega arith) (omega arith) (omega arith)

pub returns-then-b-gt60 : goal.returns-then-b-gt60
unfolding one_of
returns-then-b-gt60 c = let b = c.args.b in rw (run-basic b (omega arith) (omega arith), ne_eqb b 60 (omega arith), ne_eqb b 38 (omega arith), or-false)

pub returns-then-b-gt38 : goal.returns-then-b-gt38
unfolding one_of
returns-then-b-gt38 c = let b = c.args.b in rw (run-basic b (omega arith) (omega arith), ne_eqb b 93 (omega arith), ne_eqb b 38 (omega arith), or-false)

pub returns-else-b-ne38 : goal.returns-else-b-ne38
unfolding is_run is_single is_legal one_of between every
returns-else-b-ne38 c = let b = c.args.b in let e : b ≡ 38 = c.if-b-ne38.false in rw e

pub returns-then-b-gt31 : goal.returns-then-b-gt31
unfolding one_of
returns-then-b-gt31 c =
    let b = c.args.b in
    rw (run-basic b (omega arith) (omega arith), ne_eqb b 93 (omega arith), ne_eqb b 60 (omega arith), ne_eqb b 38 (omega arith)) (lt-ltb 31 b c.if-b-gt31.true)

pub returns-else-b-gt31 : goal.returns-else-b-gt31
returns-else-b-gt31 c =
    let b = c.args.b in
    c.is_space.ensures ∙ single-low b (omega arith) ∙ run-rest b (omega arith) (omega arith) (omega arith)
