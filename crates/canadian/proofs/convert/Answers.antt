-- Each number answers alone; of a message that passed them all, what it gives is written.
use mathlib.Core.Path.{sym, ◌∙◌}
use Rattle.outputs.proofs.Fits.{room_of_lem}
use Rattle.outputs.proofs.Answers.{untouched}
use Rattle.canadian.proofs.Outcomes.{short, refused, told, fits}
use Rattle.canadian.proofs.convert.Goals as goal

pub returns-then-not-is_roomy : goal.returns-then-not-is_roomy
returns-then-not-is_roomy c =
    let a = c.args in
    let both = untouched _ _ _ _ 2 0 (short a.message.now _ _ (sym c.is_roomy.ensures ∙ c.if-not-is_roomy.true)) c.answer_alone.ensures in
    record { value = both.0; text_after = both.1.0; uri_after = both.1.1 }

pub returns-then-m-ne0 : goal.returns-then-m-ne0
returns-then-m-ne0 c =
    let a = c.args in
    let both = untouched _ _ _ _ _ _ (refused a.message.now _ _ (sym c.is_roomy.ensures ∙ c.if-not-is_roomy.false) _ c.read-m.ensures c.if-m-ne0.true) c.answer_alone-then-m-ne0.ensures in
    record { value = both.0; text_after = both.1.0; uri_after = both.1.1 }

pub write-requires : goal.write-requires
write-requires c =
    let a = c.args in
    let roomy = sym c.is_roomy.ensures ∙ c.if-not-is_roomy.false in
    let room = room_of_lem _ _ roomy in
    record { in_bounds = room.0; in_bounds_2 = room.1; uri_fits = fits a.message.now _ _ roomy _ c.read-m.ensures }

pub returns : goal.returns
returns c =
    let a = c.args in
    rw (told a.message.now _ _ (sym c.is_roomy.ensures ∙ c.if-not-is_roomy.false) _ c.read-m.ensures c.if-m-ne0.false)
    (record { value = c.write.ensures.value; text_after = c.write.ensures.text_after; uri_after = c.write.ensures.uri_after })
