-- Nothing has no length.
use mathlib.Core.Path.{refl}
use Rattle.convert.specs.Convert.{header_answer_of}
use Rattle.convert.proofs.no_header.Goals as goal

pub returns : goal.returns
unfolding header_answer_of
returns c = refl
