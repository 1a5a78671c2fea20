-- A reference begins with `&`; anything else here is of more than one byte.
use mathlib.Core.Path.{sym, ◌∙◌}
use Rattle.pieces.proofs.Inside.{char-ref}
use Rattle.pieces.proofs.other.Goals as goal

pub returns-then-byte-eq38 : goal.returns-then-byte-eq38
returns-then-byte-eq38 c =
    let a = c.args in
    c.reference.ensures ∙ char-ref a.s.now a.at (sym c.byte.ensures ∙ c.if-byte-eq38.true)
