-- The value from its first character on.
use native.Mathlib.Omega.{arith}
use lib.ListN.{take}
use Rattle.values.specs.Value.{value_at}
use Rattle.values.specs.WorkingSteps.{rest_at}
use Rattle.wording.proofs.Cuts.{plain-short}
use Rattle.wording.proofs.Pens.{bytes_le}
use Rattle.wording.proofs.Spells.{from-lead, spelled-put}
use Rattle.wording.proofs.put_first.Goals as goal

pub spell-spelled-requires : goal.spell-spelled-requires
spell-spelled-requires c =
    let t = rest_at c.args.s.now c.lead.result in
    omega (arith, c.requires, bytes_le (take 1800 t) (plain-short t))

pub returns : goal.returns
returns c =
    let a = c.args in
    let from = from-lead a.s.now a.p _ c.lead.ensures in let both = spelled-put a.s.now _ 1800 0 _ (value_at a.s.now a.p) from c.spell-spelled.ensures.value a.out.now 0 _ (omega arith) c.spell-spelled.ensures.out_after in record { value = both.0; out_after = both.1 }
