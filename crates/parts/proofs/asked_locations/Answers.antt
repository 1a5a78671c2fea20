use Prim.Native.Nat.{◌+◌, ◌-◌, ◌*◌, ◌/◌}
use mathlib.Core.Path.{sym, ap, ◌∙◌}
use native.Mathlib.Omega.{arith}
use lib.ListN.{length, length-set}
use lib.Seq.{sets}
use borrow.Author.Tests.{le-leb, lt-leb, eq-eqb, ne_eqb}
use Rattle.octets.proofs.Numbers.{num-value, num-none}
use Rattle.octets.proofs.Runs.{sets_more}
use Rattle.octets.proofs.Tests.{every_of}
use Rattle.parts.proofs.Asking.{sixes-cut, sixes-last, digits-on, digits-broken, digits-ended, sixes-refused, sixes-taken}
use Rattle.parts.specs.WorkingAsked.{sixes, sixes_tests, sixes_ok}
use Rattle.std.specs.Prelude.{Some}
use Rattle.parts.proofs.asked_locations.Goals.{then-s-gt186-via-then-s-gt186, then-s-gt186-via-else-s-gt186+then-s-n}
use Rattle.parts.proofs.asked_locations.Goals as goal

pub returns-then-s-gt186 : goal.returns-then-s-gt186
returns-then-s-gt186 c =
    elim c.then-s-gt186.branch [
      | then-s-gt186-via-then-s-gt186 w ↦ sym (sixes-refused 0 c.args.s.now (lt-leb _ _ w.if-s-gt186.true))
      | then-s-gt186-via-else-s-gt186+then-s-n w ↦ sym (sixes-refused 1 c.args.s.now (ne_eqb _ _ w.if-s-n.true))
    ]

pub returns-in_err-list : goal.returns-in_err-list
returns-in_err-list c =
    let l = c.loop-k in
    c.from_residual.ensures ∙ sym (sixes-refused 2 _ (digits-broken _ l.k l.invariant.digits (num-none _ (sym c.number.ensures ∙ c.in_err-list.was))))

pub loop-k-preserved : goal.loop-k-preserved
loop-k-preserved c =
    let l = c.loop-k in
    let s = c.args.s.now in
    let n = length s / 6 in
    let v = num-value _ _ (sym c.number.ensures ∙ c.in_ok-list.was) in
    let e = ap (sets l.list l.k) (sym (sixes-cut n l.k s c.loop-k-test.true)) ∙ l.invariant.list in
    record {
      long = simp length-set l.invariant.long;
      digits = digits-on s l.k l.invariant.digits v.0;
      list = sets_more l.list l.k _ _ (sixes (n - (l.k + 1)) s (6 * (l.k + 1))) _ e v.1;
    }

pub returns : goal.returns
unfolding sixes_ok
returns c =
    let l = c.loop-k in
    let s = c.args.s.now in
    let all = digits-ended s l.k l.invariant.digits (omega arith) in
    let e = ap (sets l.list l.k) (sym (sixes-last (length s / 6) l.k s (6 * l.k) c.loop-k-test.false)) ∙ l.invariant.list in
    ap Some e ∙ sym (sixes-taken s (every_of (sixes_tests s) (le-leb _ _ c.if-s-gt186.false, (eq-eqb _ _ c.if-s-n.false, (all, tt)))))
