-- Must-carry is read, and the header put.
use Rattle.octets.specs.Text.{bytes}
use Rattle.convert.specs.Convert.{header_answer_of}
use Rattle.convert.specs.WorkingConvert.{header_by}
use Rattle.convert.proofs.write_header.Goals as goal

pub returns : goal.returns
unfolding header_answer_of header_by bytes
returns c =
    record { value = rw (c.put_header.ensures.value, c.equal.ensures); out_after = c.put_header.ensures.out_after }
