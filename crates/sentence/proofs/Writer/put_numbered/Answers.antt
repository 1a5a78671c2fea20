-- The digits behind the text.
use Rattle.sentence.proofs.Writers.{then}
use Rattle.sentence.proofs.Writer.put_numbered.Goals as goal

pub returns : goal.returns
returns c = then c.put.ensures c.put_number.ensures
