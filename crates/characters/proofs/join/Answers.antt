-- By whether the byte is of those that a character goes on with.
use mathlib.Core.Path.{sym, ◌∙◌}
use native.Mathlib.Omega.{arith}
use Rattle.octets.proofs.Tests.{between-low, between-high}
use Rattle.characters.specs.WorkingUtf8.{joined_at}
use Rattle.characters.proofs.join.Goals as goal

pub returns-then-not-is_between : goal.returns-then-not-is_between
unfolding joined_at
returns-then-not-is_between c = record { value = rw (← c.byte-b.ensures, sym c.is_between.ensures ∙ c.if-not-is_between.true); upper_bound = omega arith }

pub overflow_sub-b : goal.overflow_sub-b
overflow_sub-b c = between-low 128 191 _ (sym c.is_between.ensures ∙ c.if-not-is_between.false)

pub returns : goal.returns
unfolding joined_at
returns c =
    let taken = sym c.is_between.ensures ∙ c.if-not-is_between.false in
    record { value = rw (← c.byte-b.ensures, taken) (omega (arith, c.from.ensures)); upper_bound = omega (arith, c.from.ensures, between-high 128 191 _ taken) }
