-- The parts that are asked are written.
use mathlib.Core.Path.{ap, ◌∙◌}
use Rattle.header.specs.Header.{write_of, write_bytes}
use Rattle.header.proofs.write_asked.Goals as goal

pub returns : goal.returns
returns c =
    let d = c.args.out.now in
    record { value = c.write_header.ensures.value ∙ ap (write_of d) c.asked_parts-p.ensures; out_after = c.write_header.ensures.out_after ∙ ap (write_bytes d) c.asked_parts-p.ensures }
