-- By the least number, and by what is_legal answers.
use mathlib.Core.Path.{sym, ◌∙◌}
use borrow.Author.Tests.{le-leb, lt-leb}
use Rattle.characters.specs.WorkingUtf8.{legal_from}
use Rattle.characters.proofs.legal_from.Goals as goal
use Rattle.characters.proofs.legal_from.Goals.{else-least-c-via-then-least-c+else-is_legal, else-least-c-via-else-least-c}

pub returns-then-is_legal : goal.returns-then-is_legal
unfolding legal_from
returns-then-is_legal c = rw (le-leb _ _ c.if-least-c.true, sym c.is_legal.ensures ∙ c.if-is_legal.true)

pub returns-else-least-c : goal.returns-else-least-c
unfolding legal_from
returns-else-least-c c =
    elim c.else-least-c.branch [
      | else-least-c-via-then-least-c+else-is_legal w ↦ rw (le-leb _ _ w.if-least-c.true, sym w.is_legal.ensures ∙ w.if-is_legal.false)
      | else-least-c-via-else-least-c w ↦ rw (lt-leb _ _ w.if-least-c.false)
    ]
