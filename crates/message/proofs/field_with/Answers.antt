-- The faults are those of the definition.
use mathlib.Core.Bool.{Bool, not, ◌||◌}
use mathlib.Core.List.{List, [], ◌∷◌}
use mathlib.Core.Path.{◌≡◌, sym, ap, ◌∙◌}
use Rattle.faults.specs.WorkingField.{lowest}
use Rattle.fields.specs.WorkingFields.{status_place, scope_place}
use Rattle.message.specs.WorkingJudged.{info_ok, faults_with}
use Rattle.message.proofs.Leaves.{no-time, no-status, no_scope, unknown-type}
use Rattle.message.proofs.field_with.Goals as goal
use Rattle.message.proofs.field_with.Goals.{then-a, else-a}

pub returns : goal.returns
returns c =
    let a = c.args in
    let o : c.if-a.field ≡ a.a.fault || not (info_ok a.a.info) = elim c.if-a.branch [
      | then-a w ↦ w.field-is ∙ w.if-a.true ∙ sym (ap (λ (b : Bool). b || not (info_ok a.a.info)) w.if-a.true)
      | else-a w ↦ w.field-is ∙ ap not w.is_info_sound.ensures ∙ sym (ap (λ (b : Bool). b || not (info_ok a.a.info)) w.if-a.false)
    ]
    in
    let t = no-time _ _ c.is_none.ensures in
    let u = no-status _ _ c.is_none-2.ensures in
    let v = no_scope _ _ c.is_none-3.ensures in
    let e : ◌≡◌ {A = List Bool} (not c.is_identified.result ∷ not c.is_identified-2.result ∷ c.is_none.result ∷ c.is_none-2.result ∷ c.eq.result ∷ c.is_none-3.result ∷ c.if-a.field ∷ []) (faults_with a.s.now a.a a.sent (status_place a.status) a.msg_type (scope_place a.scope)) =
    rw (c.is_identified.ensures, c.is_identified-2.ensures, t, u, unknown-type _ _ c.eq.ensures, v, o) in
    c.field.ensures ∙ ap lowest e
