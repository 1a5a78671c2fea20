-- Forty characters fit their room, of four bytes each at most.
use Rattle.std.proofs.Common.{arith, ℕ, ◌+◌, ◌≤◌, List, length, take, length-take}
use Rattle.characters.specs.Utf8.{utf8}
use Rattle.characters.proofs.Texts.{utf8-most}
use Rattle.values.specs.WorkingSteps.{rest_at}
use Rattle.cases.proofs.message_lines.put_value.Goals as goal

room : (v : List ℕ) → 0 + length (utf8 (take 40 v)) ≤ 160
room v = omega (arith, utf8-most (take 40 v), length-take 40 v)

pub spell-spelled-requires : goal.spell-spelled-requires
spell-spelled-requires c = room (rest_at c.args.s.now c.lead-first.result)
