-- By the range that the byte is in, from the small letters down.
use mathlib.Core.Path.{◌∙◌}
use mathlib.Core.Bool.{or-false}
use borrow.Author.Tests.{eq-eqb, ne_eqb, le-leb}
use Rattle.octets.specs.Bytes.{one_of}
use Rattle.pieces.proofs.Inside.{named_small, named-capital, named-line, named-digit, named-mark}
use Rattle.pieces.proofs.is_named.Goals as goal

pub returns-then-b-gt96 : goal.returns-then-b-gt96
returns-then-b-gt96 c = named_small c.args.b c.if-b-gt96.true

pub returns-then-b-le90 : goal.returns-then-b-le90
returns-then-b-le90 c = le-leb c.args.b 90 c.if-b-le90.true ∙ named-capital c.args.b c.if-b-gt64.true c.if-b-le90.true

pub returns-else-b-le90 : goal.returns-else-b-le90
returns-else-b-le90 c = named-line c.args.b c.if-b-le90.false c.if-b-gt96.false

pub returns-then-b-gt47 : goal.returns-then-b-gt47
returns-then-b-gt47 c = named-digit c.args.b c.if-b-gt47.true c.if-b-gt64.false

pub returns-then-b-eq45 : goal.returns-then-b-eq45
unfolding one_of
returns-then-b-eq45 c =
    let b = c.args.b in
    let e = eq-eqb b 45 c.if-b-eq45.true in
    e ∙ (rw e at (named-mark b c.if-b-gt47.false))

pub returns-else-b-eq45 : goal.returns-else-b-eq45
unfolding one_of
returns-else-b-eq45 c = let b = c.args.b in rw (ne_eqb b 45 c.if-b-eq45.false, or-false) at (named-mark b c.if-b-gt47.false)
