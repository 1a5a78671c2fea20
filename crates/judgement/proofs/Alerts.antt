-- Numbers 11 to 14 by their tests, one after the other: e, o, n are the event, the originator and the seconds as they were found.
use Prim.Native.Nat.{ℕ}
use mathlib.Core.Path.{◌≡◌, refl, sym, ◌∙◌}
use mathlib.Core.Bool.{Bool, true, false}
use mathlib.Core.List.{List}
use borrow.Author.Tests.{eq-eqb, ne_eqb}
use Rattle.octets.specs.Bytes.{pick}
use Rattle.values.specs.Value.{value_at}
use Rattle.parts.specs.declared.Originator.{Originator}
use Rattle.std.specs.Prelude.{Option, Some, None, Result, Ok, Err, IsErrAnd}
use Rattle.std.specs.Option.{ok_or}
use Rattle.reads.specs.WorkingLeaves.{eas_org_leaf}
use Rattle.reads.specs.declared.Leaf.{Leaf}
use Rattle.message.specs.declared.Message.{Message}
use Rattle.message.specs.WorkingMessage.{info_in}
use Rattle.judgement.specs.WorkingRules.{event_is, event_of, origin_of, located}
use Rattle.judgement.specs.WorkingJudged.{without, body_with, lasting, alerted}
use Rattle.judgement.specs.declared.Judged.{Judged}

pub event-none : (s : List ℕ) (l : Leaf) → event_of s l ≡ None → event_is s l ≡ false
unfolding event_of
event-none s l h = go (event_is s l) h
  where
    go : (b : Bool) → pick b (Some (value_at s l.at)) None ≡ None → b ≡ false
    go true k = cc
    go false k = refl

pub event-some : (s : List ℕ) (l : Leaf) (e : List ℕ) → event_of s l ≡ Some e → (event_is s l ≡ true) × (e ≡ value_at s l.at)
unfolding event_of
event-some s l e h = go (event_is s l) h
  where
    go : (b : Bool) → pick b (Some (value_at s l.at)) None ≡ Some e → (b ≡ true) × (e ≡ value_at s l.at)
    go true k = (refl, cc)
    go false k = absurd cc

-- a part that is none is refused by its number
pub refusing : {A B : Type 0} (o : Option A) (n k : ℕ) (r : Result B ℕ) → ok_or o n ≡ Err k → IsErrAnd r (λ f. f ≡ k) → (o ≡ None) × (r ≡ Err n)
refusing None n k (Ok b) h g = absurd g
refusing None n k (Err f) h g = (refl, cc)
refusing (Some x) n k r h g = absurd cc

module _ (s : List ℕ) (m : Message) where
  pub no-event : event_of s (info_in m).events.same ≡ None → without m 11 false ≡ alerted s m
  unfolding alerted
  no-event h = rw (event-none s (info_in m).events.same h)

  module _ (e : List ℕ) (heard : event_of s (info_in m).events.same ≡ Some e) where
    told : event_is s (info_in m).events.same ≡ true
    told = (event-some s (info_in m).events.same e heard).0

    pub no-originator : origin_of s (eas_org_leaf (info_in m)) ≡ None → without m 12 false ≡ alerted s m
    unfolding alerted
    no-originator h = rw (told, h)

    module _ (o : Originator) (known : origin_of s (eas_org_leaf (info_in m)) ≡ Some o) where
      pub no-location : located (info_in m).locations ≡ false → without m 13 false ≡ alerted s m
      unfolding alerted
      no-location h = rw (told, known, h)

      module _ (placed : located (info_in m).locations ≡ true) (n : ℕ) (ends : n ≡ lasting s m) where
        pub no_end : n ≡ 0 → without m 14 false ≡ alerted s m
        unfolding alerted
        no_end h = rw (told, known, placed, eq-eqb (lasting s m) 0 (sym ends ∙ h))

        pub an-alert : (n ≡ 0 → ⊥) →
            ◌≡◌ {A = Judged} (record { number = 0; field = m.field; quiet = false; body = body_with o e (info_in m).locations n m.sent; message = m }) (alerted s m)
        unfolding alerted
        an-alert h = rw (told, known, placed, ne_eqb (lasting s m) 0 (λ k. h (ends ∙ k)), (event-some s (info_in m).events.same e heard).1, ends)
