use mathlib.Core.Path.{◌≡◌, ap, ◌∙◌}
use Prim.Native.Nat.{ℕ}
use native.Mathlib.Omega.{arith}
use lib.Seq.{sets}
use Rattle.octets.specs.Digits.{digits}
use Rattle.octets.proofs.Runs.{put_step}
use Rattle.octets.proofs.put_number.Goals as goal

pub loop-k-preserved : goal.loop-k-preserved
loop-k-preserved c =
    let l = c.loop-k in put_step _ _ _ _ c.loop-k-test.true ∙ l.invariant

pub returns : goal.returns
unfolding digits
returns c =
    let l = c.loop-k in
    let z : 0 ≡ l.k = omega arith in
    ap (λ (k : ℕ). sets l.out c.args.at (digits k l.rest)) z ∙ l.invariant
