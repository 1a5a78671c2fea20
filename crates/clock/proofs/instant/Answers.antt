-- A refusal names the piece that failed; the instant is that of the definition, since each signed value fits its bits.
use mathlib.Core.Path.{sym, ap, ◌∙◌}
use lib.ListN.{length}
use Rattle.clock.specs.Time.{time_of}
use native.Mathlib.Omega.{arith}
use borrow.Author.Tests.{ne_eqb}
use Rattle.clock.proofs.Pieces.{read-not, date-under, second-under}
use Rattle.clock.proofs.Times.{Parts, lent-not, lent-is, time-no, behind-most, utc-fits, time-made}
use Rattle.clock.proofs.instant.Goals as goal

-- the length and the three pieces
read : (c : goal.After-since_2000) → Parts c.in_ok-t.t.now c.in_ok-days.days c.in_ok-seconds.seconds c.in_ok-behind.behind
read c =
    record {
      long = let whole = lent-is _ (λ y. y.now) _ _ 25 c.try_from.ensures.1 (sym c.in_ok-t.was ∙ c.ok.ensures.value) in ap length whole.1 ∙ whole.0;
      date-read = sym c.date.ensures ∙ c.in_ok-days.was;
      second-read = sym c.second.ensures ∙ c.in_ok-seconds.was;
      zone-read = sym c.zone.ensures ∙ c.in_ok-behind.was;
    }

pub returns-in_err-t : goal.returns-in_err-t
returns-in_err-t c = c.from_residual.ensures ∙ sym (time-no 0 _ (ne_eqb _ _ (lent-not _ (λ y. y.now) _ 25 c.try_from.ensures.1 (sym c.in_err-t.was ∙ c.ok.ensures.value))))

pub returns-in_err-days : goal.returns-in_err-days
returns-in_err-days c = c.from_residual-in_err-days.ensures ∙ sym (time-no 1 _ (read-not _ _ (sym c.date.ensures ∙ c.in_err-days.was))) ∙ ap time_of (lent-is _ (λ y. y.now) _ _ 25 c.try_from.ensures.1 (sym c.in_ok-t.was ∙ c.ok.ensures.value)).1

pub returns-in_err-seconds : goal.returns-in_err-seconds
returns-in_err-seconds c = c.from_residual-in_err-seconds.ensures ∙ sym (time-no 2 _ (read-not _ _ (sym c.second.ensures ∙ c.in_err-seconds.was))) ∙ ap time_of (lent-is _ (λ y. y.now) _ _ 25 c.try_from.ensures.1 (sym c.in_ok-t.was ∙ c.ok.ensures.value)).1

pub returns-in_err-behind : goal.returns-in_err-behind
returns-in_err-behind c = c.from_residual-in_err-behind.ensures ∙ sym (time-no 3 _ (read-not _ _ (sym c.zone.ensures ∙ c.in_err-behind.was))) ∙ ap time_of (lent-is _ (λ y. y.now) _ _ 25 c.try_from.ensures.1 (sym c.in_ok-t.was ∙ c.ok.ensures.value)).1

pub since_2000-requires : goal.since_2000-requires
since_2000-requires c = record {
  days_bound = omega (arith, date-under c.in_ok-t.t.now _ (sym c.date.ensures ∙ c.in_ok-days.was));
  second_bound = second-under c.in_ok-t.t.now _ (sym c.second.ensures ∙ c.in_ok-seconds.was);
}

pub to_utc-requires : goal.to_utc-requires
to_utc-requires c = let both = utc-fits (read c) _ _ _ _ c.since_2000.ensures c.with_sign-offset.ensures (omega (arith, behind-most (read c))) in record { local_bound = both.0; minutes_bound = both.1 }

pub returns : goal.returns
returns c =
    let parts : Parts c.in_ok-t.t.now c.in_ok-days.days c.in_ok-seconds.seconds c.in_ok-behind.behind
    = record {
      long = let whole = lent-is _ (λ y. y.now) _ _ 25 c.try_from.ensures.1 (sym c.in_ok-t.was ∙ c.ok.ensures.value) in ap length whole.1 ∙ whole.0;
      date-read = sym c.date.ensures ∙ c.in_ok-days.was;
      second-read = sym c.second.ensures ∙ c.in_ok-seconds.was;
      zone-read = sym c.zone.ensures ∙ c.in_ok-behind.was;
    } in
    time-made parts _ _ _ _ c.since_2000.ensures c.with_sign-offset.ensures c.to_utc.ensures c.in_span.ensures ∙ ap time_of (lent-is _ (λ y. y.now) _ _ 25 c.try_from.ensures.1 (sym c.in_ok-t.was ∙ c.ok.ensures.value)).1
