-- Nothing has no length.
use mathlib.Core.Path.{refl}
use Rattle.outputs.specs.Outputs.{text_answer_of}
use Rattle.outputs.proofs.answer_alone.Goals as goal

pub returns : goal.returns
unfolding text_answer_of
returns c = refl
