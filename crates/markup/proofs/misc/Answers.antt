use Rattle.std.proofs.Common.{rules, ◌≡◌}
use Rattle.pieces.specs.declared.Step.TheVariants.{Go}
use Rattle.markup.specs.Document.{misc_step, misc_at}
use Rattle.markup.proofs.Goes.{misc-forward}
use Rattle.markup.proofs.misc.Goals as goal

pub walk-requires-clause-forward : goal.walk-requires-clause-forward
walk-requires-clause-forward c = λ i j p. let e : Go j ≡ misc_step c.args.s.now i = search rules in misc-forward c.args.s.now i j e

pub returns : goal.returns
unfolding misc_at
returns c = search rules
