-- A pair at fault is marked; of the others the leaf of the parameter's own row changes, where it has one.
use Prim.Native.Nat.{ℕ}
use mathlib.Core.Path.{◌≡◌, sym, ◌∙◌}
use mathlib.Core.List.{List}
use borrow.Author.Rules.{rules}
use borrow.Author.Tests.{lt-ltb}
use lib.ListN.{length}
use Rattle.std.specs.Prelude.{Some}
use Rattle.values.specs.Value.{value_at}
use Rattle.reads.specs.declared.Leaf.{Leaf}
use Rattle.reads.specs.WorkingSteps.{parameter_row, rows_step, parameter_step}
use Rattle.reads.specs.WorkingParameters.{read_parameters}
use Rattle.reads.proofs.ParameterRows.{own_row, no-row-of-it, row-within, apart}
use Rattle.gather.specs.declared.Touch.TheVariants.{Stands}
use Rattle.gather.specs.WorkingVisit.{touched, touched_at}
use Rattle.gather.proofs.add_parameter.Goals as goal

row-touched : (s : List ℕ) (name value : Leaf) (ls : List Leaf) (k : ℕ) → length ls ≡ 4 → parameter_row read_parameters (value_at s name.at) (value_at s value.at) ≡ Some k
    → touched_at (length ls) (Stands value.at) k ls ≡ rows_step s name value read_parameters ls
unfolding touched
row-touched s name value ls k long is =
    rw (long, lt-ltb k 4 (row-within read_parameters _ _ k is)) (sym (own_row s name value read_parameters ls long (apart _ _) k is))

pub returns-then-not-is_pair : goal.returns-then-not-is_pair
unfolding parameter_step
returns-then-not-is_pair c = rw (sym c.is_pair.ensures ∙ c.if-not-is_pair.true)

pub returns-in-Some : goal.returns-in-Some
unfolding parameter_step
returns-in-Some c =
    let long : length c.args.e.now.leaf ≡ 4 = search rules in
    rw (sym c.is_pair.ensures ∙ c.if-not-is_pair.false, c.touch_at.ensures, row-touched c.args.s.now c.args.name c.args.value c.args.e.now.leaf _ long (sym c.parameter_row.ensures ∙ c.in-Some.is))

pub returns-in_default : goal.returns-in_default
unfolding parameter_step
returns-in_default c =
    let long : length c.args.e.now.leaf ≡ 4 = search rules in
    rw (sym c.is_pair.ensures ∙ c.if-not-is_pair.false, no-row-of-it c.args.s.now c.args.name c.args.value read_parameters c.args.e.now.leaf long (sym c.parameter_row.ensures ∙ c.in_default.is))
