-- The values of the selected info stand at their places.
use Rattle.convert.specs.WorkingConvert.{text_in}
use Rattle.convert.proofs.put_text.Goals as goal

pub returns : goal.returns
unfolding text_in
returns c = record { value = c.write_text.ensures.value; out_after = c.write_text.ensures.out_after }
