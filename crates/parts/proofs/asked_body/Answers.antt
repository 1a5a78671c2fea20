-- One test after the other; a test that fails leaves zeros.
use mathlib.Core.Path.{sym, ap, ◌∙◌}
use borrow.Author.Tests.{ne_eqb}
use Rattle.parts.proofs.Asking.{sixes-none, sixes-some, asked-refused, asked-taken}
use Rattle.parts.proofs.Chunks.{whole-not, whole-is}
use Rattle.parts.specs.Originator.{is_known}
use Rattle.parts.specs.Parts.{no_body}
use Rattle.parts.specs.declared.Body.{Body}
use Rattle.std.specs.Option.{unwrap_or}
use Rattle.std.specs.Prelude.{Option}
use Rattle.parts.proofs.asked_body.Goals as goal

pub returns-in_err-originator : goal.returns-in_err-originator
returns-in_err-originator c =
    ap (λ (o : Option Body). unwrap_or o no_body) c.from_residual.ensures
    ∙ sym (asked-refused _ _ _ _ _ _ _ 0 (ap is_known (sym c.originator_numbered.ensures ∙ c.in_err-originator.was)))

pub returns-in_err-event : goal.returns-in_err-event
returns-in_err-event c =
    ap (λ (o : Option Body). unwrap_or o no_body) c.from_residual-in_err-event.ensures
    ∙ sym (asked-refused _ _ _ _ _ _ _ 1 (ne_eqb _ _ (whole-not c.try_from.result c.args.event.now 3 c.try_from.ensures.1 (sym c.in_err-event.was ∙ c.ok.ensures.value))))

pub returns-in_err-locations : goal.returns-in_err-locations
returns-in_err-locations c =
    ap (λ (o : Option Body). unwrap_or o no_body) c.from_residual-in_err-locations.ensures
    ∙ sym (asked-refused _ _ _ _ _ _ _ 2 (sixes-none _ (sym c.asked_locations.ensures ∙ c.in_err-locations.was)))

pub returns : goal.returns
returns c =
    let read = sixes-some _ _ (sym c.asked_locations.ensures ∙ c.in_ok-locations.was) in
    let three = whole-is c.try_from.result c.args.event.now _ 3 c.try_from.ensures.1 (sym c.in_ok-event.was ∙ c.ok.ensures.value) in
    asked-taken _ _ _ _ _ _ _ _ _ _ (sym c.originator_numbered.ensures ∙ c.in_ok-originator.was) three.0 read.0 three.1 read.1
