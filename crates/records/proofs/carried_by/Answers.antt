-- By its kind.
use mathlib.Core.Path.{sym, ◌∙◌}
use Rattle.records.specs.Record.{key, header, aired_in}
use Rattle.records.proofs.Carried.{carried-is, carried_other}
use Rattle.records.proofs.carried_by.Goals as goal

pub returns-then-r-eq-NOTICE : goal.returns-then-r-eq-NOTICE
unfolding key header
returns-then-r-eq-NOTICE c = c.with_year.ensures ∙ sym (carried-is _ c.if-r-eq-NOTICE.true)

pub returns : goal.returns
unfolding aired_in
returns c = c.bytes_at.ensures ∙ sym (carried_other _ c.if-r-eq-NOTICE.false)
