-- Characters of one byte each are their own bytes.
use mathlib.Core.Path.{refl}
use Rattle.wording.proofs.Pens.{words-put}
use Rattle.wording.proofs.put_words.Goals as goal

pub returns : goal.returns
returns c = let both = words-put c.args.out.now c.args.pen c.args.t.now c.requires.t_value _ _ refl refl c.put_bytes.ensures in record { value = both.0; out_after = both.1 }
