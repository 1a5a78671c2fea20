-- By the byte behind the `&`.
use Rattle.std.proofs.Common.{rules, ◌≡◌, ◌∙◌, sym}
use Rattle.octets.specs.Text.{bytes}
use Rattle.pieces.proofs.Entities.{one, or-first, by-l, by-g, by-q, by-a, by-none, by-start}
use Rattle.pieces.proofs.worded.Goals as goal

pub returns-then-byte-ne38 : goal.returns-then-byte-ne38
returns-then-byte-ne38 c = by-start c.args.s.now c.args.at (λ e. c.if-byte-ne38.true (c.byte.ensures ∙ e))

pub returns-in-108 : goal.returns-in-108
unfolding bytes
returns-in-108 c = c.entity.ensures ∙ by-l c.args.s.now c.args.at (sym c.byte-2.ensures ∙ c.in-108.is)

pub returns-in-103 : goal.returns-in-103
unfolding bytes
returns-in-103 c = c.entity-in-103.ensures ∙ by-g c.args.s.now c.args.at (sym c.byte-2.ensures ∙ c.in-103.is)

pub returns-in-113 : goal.returns-in-113
unfolding bytes
returns-in-113 c = c.entity-in-113.ensures ∙ by-q c.args.s.now c.args.at (sym c.byte-2.ensures ∙ c.in-113.is)

pub returns-in-97 : goal.returns-in-97
unfolding bytes
returns-in-97 c =
    let s = c.args.s.now in
    let i = c.args.at in
    let amp : c.entity-in-97.result ≡ one s i (bytes "&amp;") 38 = c.entity-in-97.ensures in
    or-first c.entity-in-97.result c.or_else.result (one s i (bytes "&apos;") 39) _ c.or_else.ensures (λ p. search rules) ∙ rw amp (by-a s i (sym c.byte-2.ensures ∙ c.in-97.is))

pub returns-in_default : goal.returns-in_default
returns-in_default c = by-none c.args.s.now c.args.at (λ h. search rules) (λ h. search rules) (λ h. search rules) (λ h. search rules)
