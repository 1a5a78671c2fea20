-- One piece after the other; a piece that is refused refuses the body, and the pieces that are taken say what it is.
use Prim.Native.Nat.{◌+◌, ◌*◌}
use mathlib.Core.Path.{sym, ap, ◌∙◌}
use native.Mathlib.Omega.{arith}
use Rattle.header.proofs.Locations.{locations-none}
use Rattle.header.proofs.Reading.{length-is, few-in, head-unknown, period-bad, time-no, body-unread, body-taken}
use Rattle.header.specs.Body.{period_read, time_read, location_count}
use Rattle.octets.proofs.Parts.{sliced}
use Rattle.header.proofs.body_in.Goals as goal

pub returns-then-not-length_ok : goal.returns-then-not-length_ok
returns-then-not-length_ok c = sym (body-unread 0 _ (sym c.length_ok.ensures ∙ c.if-not-length_ok.true))

pub overflow_sub-count : goal.overflow_sub-count
overflow_sub-count c = omega (arith, length-is _ (sym c.length_ok.ensures ∙ c.if-not-length_ok.false))

pub head_of-requires : goal.head_of-requires
head_of-requires c = omega (arith, length-is _ (sym c.length_ok.ensures ∙ c.if-not-length_ok.false))

pub returns-in_err-originator : goal.returns-in_err-originator
returns-in_err-originator c = c.from_residual.ensures ∙ sym (body-unread 1 _ (head-unknown _ (sym c.head_of.ensures ∙ c.in_err-originator.was)))

pub locations_of-requires : goal.locations_of-requires
locations_of-requires c =
    let l = sym c.length_ok.ensures ∙ c.if-not-length_ok.false in omega (arith, length-is _ l, few-in _ l)

pub returns-in_err-locations : goal.returns-in_err-locations
returns-in_err-locations c = c.from_residual-in_err-locations.ensures ∙ sym (body-unread 2 _ (locations-none _ _ _ (sym c.locations_of.ensures ∙ c.in_err-locations.was)))

pub overflow_mul-at : goal.overflow_mul-at
overflow_mul-at c = omega (arith, few-in _ (sym c.length_ok.ensures ∙ c.if-not-length_ok.false))

pub overflow_add-at : goal.overflow_add-at
overflow_add-at c = omega (arith, few-in _ (sym c.length_ok.ensures ∙ c.if-not-length_ok.false))

pub overflow_add-times : goal.overflow_add-times
overflow_add-times c = omega (arith, few-in _ (sym c.length_ok.ensures ∙ c.if-not-length_ok.false))

pub slice_bounds-times-end : goal.slice_bounds-times-end
slice_bounds-times-end c = omega (arith, length-is _ (sym c.length_ok.ensures ∙ c.if-not-length_ok.false))

pub returns-in_err-period : goal.returns-in_err-period
returns-in_err-period c =
    let s = c.args.s.now in
    c.from_residual-in_err-period.ensures
    ∙ sym (body-unread 3 _ (period-bad _ (ap period_read (sliced s (12 + 7 * location_count s) 14) ∙ sym c.period_of.ensures ∙ c.in_err-period.was)))

pub returns-in_err-time : goal.returns-in_err-time
returns-in_err-time c =
    let s = c.args.s.now in
    c.from_residual-in_err-time.ensures
    ∙ sym (body-unread 4 _ (time-no _ (ap time_read (sliced s (12 + 7 * location_count s) 14) ∙ sym c.time_of.ensures ∙ c.in_err-time.was)))

pub bytes_at-requires : goal.bytes_at-requires
bytes_at-requires c = omega (arith, length-is _ (sym c.length_ok.ensures ∙ c.if-not-length_ok.false))

pub returns : goal.returns
returns c =
    let s = c.args.s.now in
    let times = sliced s (12 + 7 * location_count s) 14 in
    body-taken s _ _ _ _ _ (sym c.length_ok.ensures ∙ c.if-not-length_ok.false) (sym c.head_of.ensures ∙ c.in_ok-originator.was) c.bytes_at.ensures
    (sym c.locations_of.ensures ∙ c.in_ok-locations.was) (ap period_read times ∙ sym c.period_of.ensures ∙ c.in_ok-period.was) (ap time_read times ∙ sym c.time_of.ensures ∙ c.in_ok-time.was)
