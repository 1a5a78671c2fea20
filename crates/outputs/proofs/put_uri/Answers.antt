-- A uri that fits is copied whole, each character as it is.
use mathlib.Core.Path.{◌≡◌, refl, ap, ◌∙◌}
use mathlib.Core.List.{map}
use native.Mathlib.Omega.{arith}
use borrow.Author.Tests.{eq-eqb, ne_eqb}
use lib.ListN.{length, take, length-take}
use lib.Seq.{sets, take_all}
use Rattle.values.specs.Value.{value_at}
use Rattle.values.specs.WorkingSteps.{low}
use Rattle.values.proofs.Copies.{printable-low}
use Rattle.outputs.specs.WorkingOutputs.{uri_in}
use Rattle.outputs.proofs.put_uri.Goals as goal

pub returns-then-a-eq0 : goal.returns-then-a-eq0
unfolding uri_in
returns-then-a-eq0 c = rw (eq-eqb _ _ c.if-a-eq0.true) (record { value = refl; out_after = refl })

pub copy-requires : goal.copy-requires
copy-requires c = simp length-take (omega (arith, c.requires.in_bounds))

pub returns : goal.returns
unfolding uri_in
returns c =
    let a = c.args in
    let v = value_at a.s.now a.a.uri in
    let some = ne_eqb _ _ c.if-a-eq0.false in
    let fits = rw some at c.requires.uri_fits in
    let all = take_all 1024 v fits.short in
    let same : map low (take 1024 v) ≡ v = ap (map low) all ∙ printable-low v fits.printable in
    rw some (record { value = c.copy.ensures.value ∙ ap length all; out_after = c.copy.ensures.out_after ∙ ap (sets a.out.now 0) same })
