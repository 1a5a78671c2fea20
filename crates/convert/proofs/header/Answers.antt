-- By the numbers in their order; the header of an alert is put (Outcomes).
use mathlib.Core.Path.{◌≡◌, ◌∙◌}
use native.Mathlib.Omega.{arith}
use lib.ListN.{length}
use Rattle.outputs.specs.Outputs.{alone}
use Rattle.convert.specs.Convert.{no_header}
use Rattle.convert.specs.WorkingConvert.{outcome_of, header_by}
use Rattle.convert.proofs.Outcomes.{headed-short, headed, refused, quiet, alert, untouched, ready}
use Rattle.convert.proofs.header.Goals.{then-j-ne0-via-then-j-ne0, then-j-ne0-via-else-j-ne0+then-j}
use Rattle.convert.proofs.header.Goals as goal

pub returns-then-out-lt-MOST : goal.returns-then-out-lt-MOST
returns-then-out-lt-MOST c =
    let both = untouched _ _ _ 2 0 (headed-short c.args.message.now c.args.station.now _ (omega arith)) c.no_header.ensures in
    record { value = both.0; out_after = both.1 }

none : (c : goal.After-no_header-then-j-ne0) → let a = c.args in let j = c.judge-j.result in outcome_of no_header (header_by a.message.now a.station.now) j ≡ alone no_header j.number j.field
none c =
    elim c.then-j-ne0.branch [
      | then-j-ne0-via-then-j-ne0 w ↦ refused no_header _ c.judge-j.result w.if-j-ne0.true
      | then-j-ne0-via-else-j-ne0+then-j w ↦ quiet no_header _ c.judge-j.result w.if-j-ne0.false w.if-j.true
    ]

pub returns-then-j-ne0 : goal.returns-then-j-ne0
returns-then-j-ne0 c =
    let is = headed c.args.message.now c.args.station.now (length c.args.out.now) (omega arith) c.judge-j.result c.judge-j.ensures in
    let both = untouched _ _ _ _ _ (is ∙ none c) c.no_header-then-j-ne0.ensures in
    record { value = both.0; out_after = both.1 }

pub write_header-requires : goal.write_header-requires
write_header-requires c =
    let r = ready c.args.message.now c.args.station.now c.judge-j.result c.judge-j.ensures c.if-j-ne0.false c.if-j.false in
    record { station_value = r.named; body_value = r.body; in_bounds = omega arith }

pub returns : goal.returns
returns c =
    let is = headed c.args.message.now c.args.station.now (length c.args.out.now) (omega arith) c.judge-j.result c.judge-j.ensures in
    rw (is ∙ alert no_header _ c.judge-j.result c.if-j-ne0.false c.if-j.false) (record { value = c.write_header.ensures.value; out_after = c.write_header.ensures.out_after })
