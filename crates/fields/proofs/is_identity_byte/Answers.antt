use Rattle.std.proofs.Common.{◌∙◌, sym, ap, not}
use Rattle.fields.proofs.Identities.{left_out, let_in, unseen}
use Rattle.fields.proofs.is_identity_byte.Goals as goal
use Rattle.fields.proofs.is_identity_byte.Goals.{in-60, in_default}

pub returns-after-matches : goal.returns-after-matches
returns-after-matches c = elim c.match-matches.branch [
  | in-60 w ↦ ap not w.matches-is ∙ sym (left_out _ w.in-60.is)
  | in_default w ↦ ap not w.matches-is ∙ sym c.if-is_visible.true ∙ c.is_visible.ensures ∙ let_in _ w.in_default.in_default-own.rest.1
]

pub returns-else-is_visible : goal.returns-else-is_visible
returns-else-is_visible c = c.if-is_visible.false ∙ sym (unseen _ (sym c.is_visible.ensures ∙ c.if-is_visible.false))
