use Prim.Native.Nat.{ℕ, ◌+◌}
use mathlib.Core.Path.{refl, ap₂, ◌∙◌}
use mathlib.Core.List.{List}
use native.Mathlib.Omega.{arith}
use native.Mathlib.Numerals.{add-one}
use lib.ListN.{set}
use Rattle.calm.specs.WorkingCalm.{soft_at}
use Rattle.calm.proofs.Calms.{calm-in, put_one_lem}
use Rattle.calm.proofs.put_calm.Goals as goal

pub loop-k-init : goal.loop-k-init
unfolding soft_at
loop-k-init c = refl

pub overflow_add-i : goal.overflow_add-i
overflow_add-i c =
    let a = c.args in
    let k = c.loop-k.k in
    let l = calm-in a.s.now (a.i + k) (c.requires.calm k c.loop-k-test.true) in
    omega (arith, l)

pub bounds-s-i : goal.bounds-s-i
bounds-s-i c =
    let a = c.args in
    let k = c.loop-k.k in
    calm-in a.s.now (a.i + k) (c.requires.calm k c.loop-k-test.true)

pub loop-k-preserved : goal.loop-k-preserved
loop-k-preserved c =
    let a = c.args in
    let l = c.loop-k in
    rw add-one (ap₂ (λ (x : List ℕ) (b : ℕ). set x (a.e + l.k) b) l.invariant c.softened.ensures ∙ put_one_lem a.s.now a.out.now a.e a.i l.k)
