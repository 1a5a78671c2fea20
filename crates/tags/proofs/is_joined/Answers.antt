-- The first bytes of t are `lead` or they are not, and then the rest decides.
use Rattle.std.proofs.Common.{sym, ap, ◌∙◌, ℕ, List, length, arith}
use Rattle.octets.specs.Bytes.{same}
use Rattle.tags.proofs.Joins.{joined-not, joined-rest, joined-fits, to_end}
use Rattle.tags.proofs.is_joined.Goals as goal

pub slice_bounds-equal-count : goal.slice_bounds-equal-count
slice_bounds-equal-count c = joined-fits c.args.t.now c.args.lead.now (sym c.stands_at.ensures ∙ c.if-stands_at.true)

pub slice_bounds-equal-start : goal.slice_bounds-equal-start
slice_bounds-equal-start c =
    let l = joined-fits c.args.t.now c.args.lead.now (sym c.stands_at.ensures ∙ c.if-stands_at.true) in
    omega (arith, l)

pub returns-then-stands_at : goal.returns-then-stands_at
returns-then-stands_at c =
    let t = c.args.t.now in
    let a = c.args.lead.now in
    c.equal.ensures ∙ ap (λ (l : List ℕ). same l c.args.rest.now) (to_end t (length a)) ∙ joined-rest t a c.args.rest.now (sym c.stands_at.ensures ∙ c.if-stands_at.true)

pub returns-else-stands_at : goal.returns-else-stands_at
returns-else-stands_at c =
    c.if-stands_at.false ∙ sym (joined-not c.args.t.now c.args.lead.now c.args.rest.now (sym c.stands_at.ensures ∙ c.if-stands_at.false))
