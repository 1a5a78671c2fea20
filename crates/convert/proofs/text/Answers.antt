-- By the numbers in their order; text and uri of an alert are put (Outcomes).
use mathlib.Core.Path.{◌≡◌, sym, ◌∙◌}
use Rattle.outputs.specs.Outputs.{alone, no_text}
use Rattle.outputs.proofs.Answers.{untouched}
use Rattle.outputs.proofs.Fits.{room_of_lem}
use Rattle.convert.specs.WorkingConvert.{text_by, outcome_of, text_call}
use Rattle.convert.proofs.Outcomes.{short, long, refused, quiet, alert, ready}
use Rattle.convert.proofs.text.Goals.{then-j-ne0-via-then-j-ne0, then-j-ne0-via-else-j-ne0+then-j}
use Rattle.convert.proofs.text.Goals as goal

none : (c : goal.After-answer_alone-then-j-ne0) → let j = c.judge-j.result in outcome_of no_text (text_by c.args.message.now) j ≡ alone no_text j.number j.field
none c =
    elim c.then-j-ne0.branch [
      | then-j-ne0-via-then-j-ne0 w ↦ refused no_text _ c.judge-j.result w.if-j-ne0.true
      | then-j-ne0-via-else-j-ne0+then-j w ↦ quiet no_text _ c.judge-j.result w.if-j-ne0.false w.if-j.true
    ]

pub returns-then-not-is_roomy : goal.returns-then-not-is_roomy
unfolding text_call
returns-then-not-is_roomy c =
    let a = c.args in
    let both = untouched _ _ _ _ 2 0 (short no_text _ _ a.message.now a.station.now (sym c.is_roomy.ensures ∙ c.if-not-is_roomy.true)) c.answer_alone.ensures in
    record { value = both.0; text_after = both.1.0; uri_after = both.1.1 }

pub returns-then-j-ne0 : goal.returns-then-j-ne0
unfolding text_call
returns-then-j-ne0 c =
    let roomy = sym c.is_roomy.ensures ∙ c.if-not-is_roomy.false in
    let both = untouched _ _ _ _ _ _ (long no_text _ _ _ _ roomy c.judge-j.result c.judge-j.ensures ∙ none c) c.answer_alone-then-j-ne0.ensures in
    record { value = both.0; text_after = both.1.0; uri_after = both.1.1 }

pub write_text-requires : goal.write_text-requires
write_text-requires c =
    let a = c.args in
    let r = ready a.message.now a.station.now c.judge-j.result c.judge-j.ensures c.if-j-ne0.false c.if-j.false in
    let room = room_of_lem _ _ (sym c.is_roomy.ensures ∙ c.if-not-is_roomy.false) in
    record { body_value = r.body; uri_fits = r.fits; in_bounds = room.0; in_bounds_2 = room.1 }

pub returns : goal.returns
unfolding text_call
returns c =
    let roomy = sym c.is_roomy.ensures ∙ c.if-not-is_roomy.false in
    let is = long no_text (text_by c.args.message.now) _ _ _ roomy c.judge-j.result c.judge-j.ensures in
    rw (is ∙ alert no_text _ c.judge-j.result c.if-j-ne0.false c.if-j.false) (record { value = c.write_text.ensures.value; text_after = c.write_text.ensures.text_after; uri_after = c.write_text.ensures.uri_after })
