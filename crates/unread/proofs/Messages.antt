-- Two messages that differ only in what is unread are read alike, with the same number and field of 4 to 9.
--     MessageAs, message-as
--     only-as                  a leaf that stands once stands once
use Prim.Native.Nat.{ℕ, ◌+◌}
use Prim.Native.String.{String}
use mathlib.Core.Path.{◌≡◌, refl, ap}
use mathlib.Core.Bool.{true, false≢true}
use mathlib.Core.List.{List}
use lib.ListN.{length}
use Rattle.clock.specs.Time.{instant_in}
use Rattle.markup.specs.Tree.{One, one, none}
use Rattle.markup.specs.Document.{doc_at}
use Rattle.reads.specs.declared.Leaf as read-leaf
use Rattle.reads.specs.declared.Info as read-info
use Rattle.reads.specs.declared.Alert as read-alert
use Rattle.message.specs.Root.{prefix_of, root_ok}
use Rattle.reads.specs.WorkingLeaves.{only_of, sent_leaf}
use Rattle.message.specs.WorkingJudged.{identified, timed, place_among, typed, status_of, msg_type_of, scope_of, info_ok, field_of, number_with, message_number}
use Rattle.message.specs.WorkingMessage.{refused_as, judged, judged_root, of_root, message_says}
use Rattle.message.specs.declared.Message.{Message}
use Rattle.leaves.proofs.Reals.{leaf-is}
use Rattle.demands.specs.Numbers.{is_read, root_is}
use Rattle.unread.specs.Kept.{kept_of, OnlyUnreadDiffers}
use Rattle.unread.proofs.Alike.{both_ways, LeafAs, InfoAs, AlertAs, fresh-as, sound-as}
use Rattle.unread.proofs.Alerts.{alert-as}

module _ (s r : List ℕ) where
  pub record MessageAs (m n : Message) : Type 0 where
    pub number : m.number ≡ n.number
    pub field : m.field ≡ n.field
    pub msg_type : m.msg_type ≡ n.msg_type
    pub sent : m.sent ≡ n.sent
    pub alert : AlertAs s r m.alert n.alert

  -- ---- leaves

  pub only-as : (l m : read-leaf.Leaf) → LeafAs s r l m → only_of l ≡ only_of m
  unfolding only_of
  only-as l m h = rw (h.count, h.holds)

  identified-as : (l m : read-leaf.Leaf) → LeafAs s r l m → identified s l ≡ identified r m
  unfolding identified
  identified-as l m h = rw (only-as l m h, h.value)

  timed-as : (l m : read-leaf.Leaf) → LeafAs s r l m → timed s l ≡ timed r m
  unfolding timed
  timed-as l m h = rw (only-as l m h, h.value)

  valued_as : (ws : List String) (l m : read-leaf.Leaf) → LeafAs s r l m → place_among s ws l ≡ place_among r ws m
  unfolding place_among
  valued_as ws l m h = rw (only-as l m h, h.value)

  typed-as : (l m : read-leaf.Leaf) → LeafAs s r l m → typed s l ≡ typed r m
  unfolding typed
  typed-as l m h = rw (only-as l m h, h.value)

  info-ok-as : (i j : read-info.Info) → InfoAs s r i j → info_ok i ≡ info_ok j
  unfolding info_ok
  info-ok-as i j h =
      rw (
        sound-as s r _ _ h.expires,
        sound-as s r _ _ h.sender_name,
        sound-as s r _ _ h.description,
        sound-as s r _ _ h.instruction,
        h.events.fault,
        h.parameters.fault,
        h.locations,
        h.audio.fault,
      )

  -- ---- an alert

  module _ (a b : read-alert.Alert) (h : AlertAs s r a b) where
    status-as : status_of s a ≡ status_of r b
    status-as = valued_as _ _ _ h.status

    msg-type-as : msg_type_of s a ≡ msg_type_of r b
    msg-type-as = typed-as _ _ h.msg_type

    scope-as : scope_of s a ≡ scope_of r b
    scope-as = valued_as _ _ _ h.scope

    sent-as : timed s (sent_leaf a) ≡ timed r (sent_leaf b)
    sent-as = timed-as _ _ h.sent

    field-as : field_of s a ≡ field_of r b
    field-as = rw (identified-as _ _ h.identifier, identified-as _ _ h.sender, sent-as, status-as, msg-type-as, scope-as, h.fault, info-ok-as _ _ h.info)

    number-as : message_number s a ≡ message_number r b
    unfolding number_with
    number-as = rw (field-as, status-as, scope-as, msg-type-as)

    judged-as : MessageAs (judged s a) (judged r b)
    unfolding judged
    judged-as = record { number = number-as; field = field-as; msg_type = msg-type-as; sent = ap instant_in sent-as; alert = h }

  refused_as_lem : (n : ℕ) → MessageAs (refused_as (length s) n) (refused_as (length r) n)
  refused_as_lem n = record { number = refl; field = refl; msg_type = refl; sent = refl; alert = fresh-as s r }

-- ---- two messages

pub message-as : (s r : List ℕ) → OnlyUnreadDiffers s r → MessageAs s r (message_says s) (message_says r)
unfolding message_says of_root judged_root kept_of
message-as s r d = rw (d.length-s, d.length-r) (go (doc_at s) (doc_at r) refl refl d.subset-s d.subset-r d.root d.kept)
  where
    go : (x y : One) → doc_at s ≡ x → doc_at r ≡ y → is_read x ≡ true → is_read y ≡ true → root_is s x ≡ root_is r y → kept_of s x ≡ kept_of r y →
        MessageAs s r (of_root s x) (of_root r y)
    go none y a b e f o k = absurd (false≢true e)
    go (one g t i) none a b e f o k = absurd (false≢true f)
    go (one g t i) (one h u j) a b e f o k =
        both_ways (MessageAs s r) (root_ok s (g.from + 1) g.name) (root_ok r (h.from + 1) h.name) _ _ _ _ o
        (judged-as s r _ _
        (alert-as s (prefix_of s (g.from + 1) g.name) r (prefix_of r (h.from + 1) h.name) t u (leaf-is s g t i a) (leaf-is r h u j b) k))
        (refused_as_lem s r 6)
