-- The reader that `lead` moves on stands where the root begins, at the lent message.
use Rattle.std.proofs.Common.{◌≡◌, ◌∙◌, ap, ap₂, ℕ, List, Bor}
use Rattle.markup.specs.Tree.{elem_at}
use Rattle.markup.specs.Document.{before_root, rooted}
use Rattle.reader.specs.WorkingPosition.{reached}
use Rattle.reader.proofs.Forward.{doc-reached}
use Rattle.message.specs.WorkingMessage.{of_root}
use Rattle.message.proofs.read_forward.Goals as goal

pub returns : goal.returns
returns c =
    let s = c.args.s.now in
    let src : c.lead.result.src ≡ c.args.s = c.lead.ensures.0 ∙ c.new.ensures.0 in
    let at : c.lead.result.at ≡ reached s (before_root s 0) =
    c.lead.ensures.1 ∙ ap₂ (λ (r : Bor (List ℕ)) (i : ℕ). reached r.now (before_root r.now i)) c.new.ensures.0 c.new.ensures.1 in
    c.read_rest.ensures
    ∙ ap₂ (λ (r : Bor (List ℕ)) (i : ℕ). of_root r.now (rooted r.now (elem_at r.now 12 i))) src at
    ∙ ap (of_root s) (doc-reached s)
