use Rattle.std.proofs.Common.{◌∙◌, sym, arith, rules, tests}
use Rattle.std.proofs.lemmas.Iterator.{YieldsList-from_slice}
use Rattle.std.proofs.lemmas.Iterator.Search.{all_from_yields_List}
use Rattle.octets.proofs.Tests.{below-between, above-between}
use Rattle.fields.specs.Fields.{is_identity_byte}
use Rattle.fields.proofs.Identities.{identity-no, bytes-decide, every-all}
use Rattle.fields.proofs.is_identity.Goals as goal
use Rattle.fields.proofs.is_identity.Goals.{in-1-to-64, in_default, in_default-2}

pub returns-then-matches : goal.returns-then-matches
returns-then-matches c =
    let t = c.args.t.now in
    elim c.if-matches-2.branch [
      | in-1-to-64 w ↦ all_from_yields_List is_identity_byte _ _ _ c.all.ensures.ran (YieldsList-from_slice t cc) (λ x b q k. search (rules, tests))
          ∙ every-all is_identity_byte t
          ∙ bytes-decide t (omega arith) (omega arith)
      | in_default w ↦ cc
      | in_default-2 w ↦ cc
    ]

pub returns-else-matches : goal.returns-else-matches
returns-else-matches c = elim c.if-matches-2.branch [
  | in-1-to-64 w ↦ cc
  | in_default w ↦ w.matches-is ∙ sym (identity-no 0 c.args.t.now (below-between 1 64 _ (omega arith)))
  | in_default-2 w ↦ w.matches-is ∙ sym (identity-no 0 c.args.t.now (above-between 1 64 _ (omega arith)))
]
