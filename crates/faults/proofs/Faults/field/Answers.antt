use mathlib.Core.Path.{◌∙◌, ap}
use mathlib.Core.List.{[], ◌∷◌}
use native.Mathlib.Omega.{arith}
use lib.Count.{count_trailing_zeros}
use Prim.Native.Nat.{ℕ, ◌+◌}
use Rattle.faults.proofs.Bits.{field_is}
use Rattle.faults.proofs.Faults.field.Goals as goal

pub returns-else-bits-eq0 : goal.returns-else-bits-eq0
returns-else-bits-eq0 c =
    let f = c.args.self in
    ap (λ (n : ℕ). count_trailing_zeros 32 n + 1) c.gathered-bits.ensures ∙ field_is 32 (f.identifier ∷ f.sender ∷ f.sent ∷ f.status ∷ f.msg_type ∷ f.scope ∷ f.other ∷ []) (omega arith) (λ z. c.if-bits-eq0.false (c.gathered-bits.ensures ∙ z))
