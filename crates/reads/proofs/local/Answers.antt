-- What carries the prefix begins with it.
use mathlib.Core.Path.{sym, ◌∙◌}
use Rattle.reads.specs.Names.{local_at}
use Rattle.reads.proofs.Locals.{carries}
use Rattle.reads.proofs.local.Goals as goal

pub returns-then-starts_with : goal.returns-then-starts_with
unfolding local_at
returns-then-starts_with c =
    let a = c.args in
    rw (sym (carries a.s.now a.p.now a.from a.to c.requires.0 c.requires.1 c.starts_with.ensures.value) ∙ c.if-starts_with.true)

pub returns-else-starts_with : goal.returns-else-starts_with
unfolding local_at
returns-else-starts_with c =
    let a = c.args in
    rw (sym (carries a.s.now a.p.now a.from a.to c.requires.0 c.requires.1 c.starts_with.ensures.value) ∙ c.if-starts_with.false)
