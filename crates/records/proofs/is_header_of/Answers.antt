-- The header is read, and its day, hour and minute are judged.
use Rattle.std.proofs.Common.{rules}
use Rattle.records.proofs.Judging.{stamp-told}
use Rattle.records.proofs.is_header_of.Goals as goal

pub returns : goal.returns
returns c = stamp-told _ _ c.requires _ c.header_in.ensures _ (λ e. rw e at c.is_some_and.ensures) (λ body e. let h = rw e at c.is_some_and.ensures in search rules)
