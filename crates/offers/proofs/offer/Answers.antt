-- The board is asked once: with the records, or beside the number of the message.
use native.Mathlib.Omega.{arith}
use mathlib.Core.Path.{sym, ap, ◌∙◌}
use Rattle.judgement.specs.declared.Judged.{Judged}
use Rattle.offers.specs.Offer.{MessageOffering}
use Rattle.offers.specs.WorkingOffer.{offer_refused_by}
use Rattle.offers.proofs.Offering.{offer-board, offer-message, judged-small}
use Rattle.offers.proofs.offer.Goals as goal

pub returns-then-not-is_board : goal.returns-then-not-is_board
returns-then-not-is_board c = let e = sym (offer-board _ _ (sym c.is_board.ensures ∙ c.if-not-is_board.true)) in record { value = ap (λ (o : MessageOffering). o.answer) e; s_after = ap (λ (o : MessageOffering). o.bytes) e; number_bound = (omega arith, omega arith, omega arith) }

pub returns : goal.returns
returns c =
    let a = c.args in
    let e = ap (λ (y : Judged). offer_refused_by y.number y.field a.s.now) c.judge-judged.ensures ∙ sym (offer-message _ _ (sym c.is_board.ensures ∙ c.if-not-is_board.false) (λ z. c.if-judged-eq0.false (ap (λ (y : Judged). y.number) c.judge-judged.ensures ∙ z))) in
    let small = judged-small a.message.now in
    record { value = ap (λ (o : MessageOffering). o.answer) e; s_after = ap (λ (o : MessageOffering). o.bytes) e; number_bound = (rw c.judge-judged.ensures small.0, rw c.judge-judged.ensures small.1, omega arith) }
