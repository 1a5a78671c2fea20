-- The groups that are left decide, and a turn takes one of sixteen.
use Prim.Native.Nat.{◌-◌}
use mathlib.Core.Path.{◌≡◌}
use Rattle.values.specs.Value.{value_at}
use Rattle.values.specs.WorkingSteps.{rest_at}
use Rattle.fields.specs.References.{words}
use Rattle.fields.specs.WorkingFields.{references_ok}
use Rattle.fields.proofs.Lists.{fine}
use Rattle.fields.proofs.references_at.Given as goal

abbrev pub invariant-loop : goal.invariant-loop
invariant-loop l = fine (16 - l.counter) (words (rest_at l.s l.i)) ≡ references_ok (value_at l.s l.at)
