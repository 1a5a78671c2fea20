use Rattle.std.proofs.Common.{rules}
use Rattle.values.specs.WorkingSteps.{is_printable, printable_size}
use Rattle.values.proofs.printable_size.Goals as goal

pub returns : goal.returns
unfolding printable_size
returns c = c.size_if.ensures is_printable (search rules) (λ _ h. h)
