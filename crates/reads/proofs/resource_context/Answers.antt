use mathlib.Core.Path.{refl, ◌∙◌}
use Rattle.octets.specs.Text.{bytes}
use Rattle.words.specs.WorkingWords.{words_of}
use Rattle.reads.specs.Names.{in_resource}
use Rattle.reads.proofs.Rows.{leaf-inside}
use Rattle.reads.proofs.resource_context.Goals as goal

pub returns : goal.returns
unfolding bytes words_of
returns c = c.pair_leaf.ensures ∙ leaf-inside in_resource refl refl c.args.name.now
