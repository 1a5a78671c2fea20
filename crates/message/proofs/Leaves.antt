-- What is read at the place of a leaf, where it is the only one of its name.
use Prim.Native.Nat.{ℕ}
use mathlib.Core.Path.{◌≡◌, refl, sym, ap, ◌∙◌}
use mathlib.Core.Bool.{Bool, true, false, not, ◌&&◌}
use lib.Dec.{eqb}
use Rattle.std.specs.Option.{MatchOption, option_eq, is_some, unwrap_or}
use Rattle.clock.specs.Time.{is_time, instant_in}
use Rattle.fields.specs.WorkingFields.{status_place, scope_place}
use Rattle.fields.specs.declared.Status.{Status}
use Rattle.fields.specs.declared.Scope.{Scope}
use Rattle.std.specs.Prelude.{Option, Some, None}
use Rattle.octets.specs.Bytes.{pick}
use Rattle.reads.specs.WorkingLeaves.{only_of}
use Rattle.reads.specs.declared.Leaf.{Leaf}
use Rattle.message.specs.WorkingJudged.{place_in, is_unknown, is_ack_or_error}
use Rattle.fields.specs.declared.MsgType.{MsgType}
use Rattle.fields.specs.contracts.MsgType as MsgTypes
use Rattle.fields.specs.contracts.StatusPartialEq as StatusEq
use Rattle.fields.specs.contracts.ScopePartialEq as ScopeEq
use mathlib.Core.Logic.{◌⊎◌, inl, inr}
use denote.Enum.Bare.{sameb}

module _ {A : Type 0} (f : ℕ → A) (none : A) where
  abbrev pub read_there : Option ℕ → A
  read_there None = none
  read_there (Some i) = f i

  pub read_only : (l : Leaf) {o : Option ℕ} → o ≡ place_in l → read_there o ≡ pick (only_of l) (f l.at) none
  unfolding place_in
  read_only l e = ap read_there e ∙ go (only_of l)
    where
      go : (b : Bool) → read_there (pick b (Some l.at) None) ≡ pick b (f l.at) none
      go true = refl
      go false = refl

  -- as a closure reads it
  pub asked-only : (l : Leaf) (o : Option ℕ) (r : A) → MatchOption o (r ≡ none) (λ i. r ≡ f i) → o ≡ place_in l → r ≡ pick (only_of l) (f l.at) none
  asked-only l None r h e = h ∙ read_only l e
  asked-only l (Some i) r h e = h ∙ read_only l e

pub both-hold : (b c : Bool) → pick b c false ≡ b && c
both-hold true c = refl
both-hold false c = refl

-- ---- what is absent

pub no-time : (x : Option ℕ) (r : Bool) → is_some x ≡ not r → r ≡ not (is_time x)
no-time None true e = refl
no-time None false e = cc
no-time (Some n) true e = cc
no-time (Some n) false e = refl

pub no-status : (x : Option Status) (r : Bool) → is_some x ≡ not r → r ≡ eqb (status_place x) 0
no-status None true e = refl
no-status None false e = cc
no-status (Some y) true e = cc
no-status (Some Status.Actual) false e = refl
no-status (Some Status.Exercise) false e = refl
no-status (Some Status.System) false e = refl
no-status (Some Status.Test) false e = refl
no-status (Some Status.Draft) false e = refl

pub no_scope : (x : Option Scope) (r : Bool) → is_some x ≡ not r → r ≡ eqb (scope_place x) 0
no_scope None true e = refl
no_scope None false e = cc
no_scope (Some y) true e = cc
no_scope (Some Scope.Public) false e = refl
no_scope (Some Scope.Restricted) false e = refl
no_scope (Some Scope.Private) false e = refl

pub unknown-type : (m : MsgType) (r : Bool) → r ≡ sameb MsgTypes.the_type m MsgType.Unknown → r ≡ is_unknown m
unknown-type MsgType.Unknown r e = e
unknown-type MsgType.Alert r e = e
unknown-type MsgType.Update r e = e
unknown-type MsgType.Cancel r e = e
unknown-type MsgType.Ack r e = e
unknown-type MsgType.Error r e = e

pub zero-absent : (x : Option ℕ) → unwrap_or x 0 ≡ instant_in x
zero-absent None = refl
zero-absent (Some n) = refl

-- ---- the number

pub same-actual : (x : Option Status) (r : Bool) → r ≡ not (option_eq StatusEq.TheImpl.eq-value.it x (Some Status.Actual)) → eqb (status_place x) 1 ≡ not r
same-actual None r e = ap not (sym e)
same-actual (Some Status.Actual) r e = ap not (sym e)
same-actual (Some Status.Exercise) r e = ap not (sym e)
same-actual (Some Status.System) r e = ap not (sym e)
same-actual (Some Status.Test) r e = ap not (sym e)
same-actual (Some Status.Draft) r e = ap not (sym e)

pub same-public : (x : Option Scope) (r : Bool) → r ≡ not (option_eq ScopeEq.TheImpl.eq-value.it x (Some Scope.Public)) → eqb (scope_place x) 1 ≡ not r
same-public None r e = ap not (sym e)
same-public (Some Scope.Public) r e = ap not (sym e)
same-public (Some Scope.Restricted) r e = ap not (sym e)
same-public (Some Scope.Private) r e = ap not (sym e)

pub other_type : (m : MsgType) → (m ≡ MsgType.Ack → ⊥) → (m ≡ MsgType.Error → ⊥) → is_ack_or_error m ≡ false
other_type MsgType.Unknown a e = refl
other_type MsgType.Alert a e = refl
other_type MsgType.Update a e = refl
other_type MsgType.Cancel a e = refl
other_type MsgType.Ack a e = absurd (a refl)
other_type MsgType.Error a e = absurd (e refl)

pub ack-error : (m : MsgType) → (m ≡ MsgType.Ack) ⊎ (m ≡ MsgType.Error) → is_ack_or_error m ≡ true
ack-error m (inl e) = ap is_ack_or_error e
ack-error m (inr e) = ap is_ack_or_error e
