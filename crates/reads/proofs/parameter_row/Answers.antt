-- The name's place among the exact ones is its row; behind them stands the one of any letter case.
use borrow.Author.Rules.{rules}
use Rattle.octets.specs.Text.{bytes}
use Rattle.words.specs.WorkingWords.{words_of}
use Rattle.reads.proofs.ParameterRows.{row_is}
use Rattle.reads.proofs.parameter_row.Goals as goal

pub returns : goal.returns
unfolding bytes words_of
returns c = row_is _ _ c.which_value-exact.result c.or_else.result (search rules) c.which_value-exact.ensures
