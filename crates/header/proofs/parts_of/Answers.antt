-- A body, then the station and the dash, each tested in turn.
use mathlib.Core.Path.{sym, ap, ◌∙◌}
use native.Mathlib.Omega.{arith}
use lib.ListN.{take, length-take}
use borrow.Author.Tests.{ne_eqb}
use Rattle.header.proofs.Reading.{body-no, header-unread, header-taken, short-not}
use Rattle.header.specs.Header.{station_at}
use Rattle.octets.proofs.Parts.{sliced}
use Rattle.parts.specs.Parts.{station_ok}
use Rattle.header.proofs.parts_of.Goals as goal

pub returns-then-s-lt9 : goal.returns-then-s-lt9
returns-then-s-lt9 c =
    let s = c.args.s.now in
    sym (header-unread 0 s (short-not (take (station_at s) s) (omega (arith, length-take (station_at s) s))))

pub returns-in_err-body : goal.returns-in_err-body
returns-in_err-body c = c.from_residual.ensures ∙ sym (header-unread 0 _ (body-no _ (sym c.body_in.ensures ∙ c.in_err-body.was)))

pub returns-then-not-station_ok : goal.returns-then-not-station_ok
returns-then-not-station_ok c =
    let s = c.args.s.now in
    sym (header-unread 1 _ (ap station_ok (sliced s (station_at s) 8) ∙ sym c.station_ok.ensures ∙ c.if-not-station_ok.true))

pub returns-then-s-at-ne45 : goal.returns-then-s-at-ne45
returns-then-s-at-ne45 c = sym (header-unread 2 _ (ne_eqb _ _ c.if-s-at-ne45.true))

pub returns : goal.returns
returns c =
    let s = c.args.s.now in
    header-taken s _ _ (sym c.body_in.ensures ∙ c.in_ok-body.was) (ap station_ok (sliced s (station_at s) 8) ∙ sym c.station_ok.ensures ∙ c.if-not-station_ok.false) c.if-s-at-ne45.false c.bytes_at.ensures
