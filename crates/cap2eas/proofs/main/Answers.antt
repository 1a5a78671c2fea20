-- What is printed fits the room lent.
use Rattle.std.proofs.Common.{◌≤◌, length, sym}
use Rattle.std.proofs.Math.Seq.{length-sets, length-take-le}
use Rattle.report.proofs.Fits.{program-le}
use Rattle.cap2eas.proofs.main.Goals as goal
use Rattle.cap2eas.proofs.main.Goals.{After-program-end}

fits : (c : After-program-end) → c.program-end.result ≤ length c.program-end.new.out
fits c = rw (c.program-end.ensures.value, c.program-end.ensures.out_after, length-sets) (program-le _ _)

pub slice_bounds-out-end : goal.slice_bounds-out-end
slice_bounds-out-end c = fits c.before.before

pub slice_bounds-write_all-end : goal.slice_bounds-write_all-end
slice_bounds-write_all-end c = sym (length-take-le _ _ (fits c.before.before.before))
