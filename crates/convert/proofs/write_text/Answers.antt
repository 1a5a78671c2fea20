-- Text and uri are put, each into its own output.
use Rattle.outputs.specs.Outputs.{text_answer_of}
use Rattle.convert.specs.WorkingConvert.{text_by}
use Rattle.convert.proofs.write_text.Goals as goal

pub returns : goal.returns
unfolding text_answer_of text_by
returns c =
    record { value = rw (c.put_uri.ensures.value, c.put_text.ensures.value); text_after = c.put_text.ensures.out_after; uri_after = c.put_uri.ensures.out_after }
