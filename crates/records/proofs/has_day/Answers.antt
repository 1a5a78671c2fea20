-- By whether it is a leap year.
use Rattle.std.proofs.Common.{sym, ap, ◌∙◌}
use lib.Dec.{leb}
use Rattle.octets.proofs.Tests.{picked, passed_over}
use Rattle.clock.specs.Calendar.{leap, year_days}
use Rattle.records.proofs.has_day.Goals as goal
use Rattle.records.proofs.has_day.Goals.{then-is_leap, else-is_leap}

pub returns : goal.returns
unfolding year_days
returns c =
    let l = leap c.args.year in
    let is = sym c.is_leap.ensures in
    ap (leb c.args.day) (elim c.if-is_leap.branch [ then-is_leap w ↦ w.result-is ∙ sym (picked l 366 365 (is ∙ w.if-is_leap.true)) | else-is_leap w ↦ w.result-is ∙ sym (passed_over l 366 365 (is ∙ w.if-is_leap.false)) ])
