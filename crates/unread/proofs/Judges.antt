-- Two messages that differ only in what is unread are judged alike, up to number 14: the same number and field, quiet both or neither, the same header's parts.
--     JudgedAs, judged-as
use native.Mathlib.Omega.{arith}
use Prim.Native.Nat.{ℕ}
use mathlib.Core.Path.{◌≡◌, refl, ap}
use mathlib.Core.Bool.{Bool, true, false}
use mathlib.Core.List.{List}
use lib.Dec.{eqb}
use Rattle.parts.specs.Originator.{is_known}
use Rattle.reads.specs.WorkingLeaves.{eas_org_leaf}
use Rattle.reads.specs.declared.Leaf.{Leaf}
use Rattle.message.specs.WorkingMessage.{message_says, info_in}
use Rattle.message.specs.declared.Message.{Message}
use Rattle.judgement.specs.WorkingRules.{referenced, lacks_references, expires_in, event_is, origin_of, located, seconds_to, quiet_of}
use Rattle.judgement.specs.WorkingJudged.{without, body_with, lasting, body_in, alerted, judged_by, judged_of}
use Rattle.judgement.specs.declared.Judged.{Judged}
use Rattle.unread.specs.Kept.{OnlyUnreadDiffers}
use Rattle.unread.proofs.Alike.{both_ways, LeafAs, InfoAs}
use Rattle.unread.proofs.Messages.{MessageAs, only-as, message-as}

module _ (s r : List ℕ) where
  pub record JudgedAs (j k : Judged) : Type 0 where
    pub number : j.number ≡ k.number
    pub field : j.field ≡ k.field
    pub quiet : j.quiet ≡ k.quiet
    pub body : j.body ≡ k.body
    pub message : MessageAs s r j.message k.message

  referenced-as : (l m : Leaf) → LeafAs s r l m → referenced s l ≡ referenced r m
  unfolding referenced
  referenced-as l m h = rw (only-as s r l m h, h.value)

  event-is-as : (l m : Leaf) → LeafAs s r l m → event_is s l ≡ event_is r m
  unfolding event_is
  event-is-as l m h = rw (h.count, h.value)

  origin-as : (l m : Leaf) → LeafAs s r l m → origin_of s l ≡ origin_of r m
  unfolding origin_of
  origin-as l m h = rw (h.count, h.value)

  seconds-as : (l m : Leaf) (x y : ℕ) → LeafAs s r l m → x ≡ y → seconds_to s l x ≡ seconds_to r m y
  unfolding seconds_to
  seconds-as l m x y h e = rw (h.count, h.value, e)

  module _ (m n : Message) (h : MessageAs s r m n) where
    abbrev i : InfoAs s r (info_in m) (info_in n)
    i = h.alert.info

    lacks-as : lacks_references s m ≡ lacks_references r n
    unfolding lacks_references
    lacks-as = rw (h.msg_type, referenced-as _ _ h.alert.references)

    quiet-as : quiet_of m ≡ quiet_of n
    unfolding quiet_of
    quiet-as = rw (h.msg_type, h.alert.kept, i.events.same.count, i.locations, i.expires.count)

    lasting-as : lasting s m ≡ lasting r n
    lasting-as = seconds-as (expires_in m) (expires_in n) m.sent n.sent i.expires h.sent

    from-as : origin_of s (eas_org_leaf (info_in m)) ≡ origin_of r (eas_org_leaf (info_in n))
    from-as = origin-as _ _ (i.parameters.each 0 (omega arith))

    body-as : body_in s m ≡ body_in r n
    unfolding body_with
    body-as = rw (from-as, i.events.same.value, i.locations, lasting-as, h.sent)

    without-as : (number : ℕ) (quiet : Bool) → JudgedAs (without m number quiet) (without n number quiet)
    without-as number quiet = record { number = refl; field = h.field; quiet = refl; body = refl; message = h }

    alerted-as : JudgedAs (alerted s m) (alerted r n)
    unfolding alerted
    alerted-as =
        both_ways JudgedAs (event_is s (info_in m).events.same) (event_is r (info_in n).events.same) _ _ _ _ (event-is-as _ _ i.events.same)
        (both_ways JudgedAs (is_known (origin_of s (eas_org_leaf (info_in m)))) (is_known (origin_of r (eas_org_leaf (info_in n)))) _ _ _ _
        (ap is_known from-as)
        (both_ways JudgedAs (located (info_in m).locations) (located (info_in n).locations) _ _ _ _ (ap located i.locations)
        (both_ways JudgedAs (eqb (lasting s m) 0) (eqb (lasting r n) 0) _ _ _ _ (ap (λ (x : ℕ). eqb x 0) lasting-as)
        (without-as 14 false)
        (record { number = refl; field = h.field; quiet = refl; body = body-as; message = h }))
        (without-as 13 false))
        (without-as 12 false))
        (without-as 11 false)

    judged-by-as : JudgedAs (judged_by s m) (judged_by r n)
    unfolding judged_by
    judged-by-as =
        both_ways JudgedAs (eqb m.number 0) (eqb n.number 0) _ _ _ _ (ap (λ (x : ℕ). eqb x 0) h.number)
        (both_ways JudgedAs (lacks_references s m) (lacks_references r n) _ _ _ _ lacks-as (without-as 10 false)
        (both_ways JudgedAs (quiet_of m) (quiet_of n) _ _ _ _ quiet-as (without-as 0 true) alerted-as))
        (record { number = h.number; field = h.field; quiet = refl; body = refl; message = h })

pub judged-as : (s r : List ℕ) → OnlyUnreadDiffers s r → JudgedAs s r (judged_of s) (judged_of r)
judged-as s r e = judged-by-as s r (message_says s) (message_says r) (message-as s r e)
