-- The first location, and the others behind it.
use Prim.Native.Nat.{ℕ}
use mathlib.Core.Path.{ap}
use native.Mathlib.Omega.{arith}
use lib.ListN.{length, length-append}
use Rattle.sentence.proofs.Writers.{none-put, then, named, joined-first, none-joined}
use Rattle.sentence.proofs.Writer.put_joined.Goals as goal

pub put_location-requires : goal.put_location-requires
put_location-requires c = omega (arith, ap length (joined-first c.args.list.now c.in-len1-up.len_at_least), length-append {A = ℕ})

pub put_others-requires : goal.put_others-requires
put_others-requires c = omega (arith, ap length (joined-first c.args.list.now c.in-len1-up.len_at_least), length-append {A = ℕ})

pub returns-in_default : goal.returns-in_default
returns-in_default c = named (none-put _) _ (none-joined c.args.list.now c.in_default.len_below)

pub returns-in-len1-up : goal.returns-in-len1-up
returns-in-len1-up c = named (then c.put_location.ensures c.put_others.ensures) _ (joined-first c.args.list.now c.in-len1-up.len_at_least)
