-- The declaration, and behind it white space and comments; each answer, refused or not, is a position.
use Rattle.std.proofs.Common.{rules, ◌≡◌, ap, ◌∙◌}
use Rattle.markup.specs.Document.{led, before_root}
use Rattle.reader.specs.WorkingPosition.{reached}
use Rattle.reader.proofs.Forward.{led-is, reached-is}
use Rattle.reader.proofs.lead_at.Goals as goal

pub returns : goal.returns
unfolding before_root
returns c =
    let s = c.args.s.now in
    let e : c.and_then.result ≡ led s c.declaration.result = led-is s _ _ _ c.and_then.ensures (λ a p. search rules) in
    c.unwrap_or.ensures ∙ reached-is s c.and_then.result ∙ ap (reached s) (e ∙ ap (led s) c.declaration.ensures)
