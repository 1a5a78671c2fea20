-- Past 2099 no year has begun.
use mathlib.Core.Path.{sym}
use Rattle.records.proofs.Carried.{year-late}
use Rattle.records.proofs.utc_year.Goals as goal

pub returns-then-sent-ge-SPAN : goal.returns-then-sent-ge-SPAN
returns-then-sent-ge-SPAN c = sym (year-late _ c.if-sent-ge-SPAN.true)
