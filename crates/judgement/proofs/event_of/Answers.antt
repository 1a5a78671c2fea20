-- An event has three letters, so the first four characters of the value are judged as the whole.
use mathlib.Core.Path.{◌≡◌, sym, ◌∙◌}
use mathlib.Core.Bool.{true, false}
use native.Mathlib.Omega.{arith}
use borrow.Author.Tests.{eq-eqb, ne_eqb}
use Rattle.values.specs.Value.{value_at}
use Rattle.values.proofs.Copies.{keeps}
use Rattle.parts.specs.Parts.{event_ok}
use Rattle.parts.proofs.Has.{event-long}
use Rattle.judgement.specs.WorkingRules.{event_is, event_of}
use Rattle.judgement.proofs.Codes.{event-kept, event-judged, three-of, three_back}
use Rattle.judgement.proofs.event_of.Goals as goal

pub returns-then-l-ne1 : goal.returns-then-l-ne1
unfolding event_of event_is
returns-then-l-ne1 c = rw (ne_eqb _ _ c.if-l-ne1.true)

pub returns-then-not-event_ok : goal.returns-then-not-event_ok
unfolding event_of event_is
returns-then-not-event_ok c =
    let a = c.args in
    let v = value_at a.s.now a.l.at in
    let bad : event_ok v ≡ false = sym (event-judged v _ c.front-code.ensures _ c.event_ok.ensures) ∙ c.if-not-event_ok.true in
    rw (eq-eqb _ _ c.if-l-ne1.false, bad)

pub bytes_at-requires : goal.bytes_at-requires
bytes_at-requires c = omega (arith, event-long _ (sym c.event_ok.ensures ∙ c.if-not-event_ok.false))

pub returns : goal.returns
unfolding event_of event_is
returns c =
    let a = c.args in
    let v = value_at a.s.now a.l.at in
    let ok : event_ok v ≡ true = sym (event-judged v _ c.front-code.ensures _ c.event_ok.ensures) ∙ c.if-not-event_ok.false in
    let n = three-of v _ c.front-code.ensures (event-long v ok) in
    let code = c.bytes_at.ensures ∙ three_back v _ c.front-code.ensures n ∙ keeps v (event-kept v ok) in
    rw (eq-eqb _ _ c.if-l-ne1.false, ok, code)
