-- Nothing unread matters, over the calls as the functions' promises give them.
--     nothing-unread-matters     the calls of the library that take a message
--     same-program               the lines that the program prints
--     same-activations           whatever is called after an offer, the same goes out
use native.Mathlib.Omega.{arith}
use Prim.Native.Nat.{ℕ}
use mathlib.Core.Path.{◌≡◌, refl, ap}
use mathlib.Core.Bool.{Bool, true, false}
use mathlib.Core.List.{List, ◌∷◌}
use lib.Dec.{leb}
use lib.ListN.{length}
use Rattle.octets.specs.Bytes.{pick}
use Rattle.octets.specs.Text.{bytes}
use Rattle.parts.specs.Parts.{station_ok}
use Rattle.reads.specs.declared.Audio.{Audio}
use Rattle.message.specs.WorkingMessage.{message_says}
use Rattle.message.specs.declared.Message.{Message}
use Rattle.judgement.specs.WorkingJudged.{refused_before, judged_of}
use Rattle.judgement.specs.declared.Judged.{Judged}
use Rattle.outputs.specs.Outputs.{Outcome, alone, no_text}
use Rattle.outputs.specs.WorkingOutputs.{roomy_text, uri_in}
use Rattle.canadian.specs.WorkingCanadian.{canadian_given, words_given, canadian_by, canadian_of}
use Rattle.convert.specs.Convert.{no_header}
use Rattle.convert.specs.WorkingConvert.{text_in, header_by, text_by, judged_for, outcome_of, call_of, header_call, text_call}
use Rattle.offers.specs.WorkingRecords.{own_in, zero_filled_header, alert_by, records_of}
use Rattle.offers.specs.Offer.{MessageOffering}
use Rattle.offers.specs.WorkingOffer.{message_offer}
use Rattle.report.specs.Program.{program_of}
use Rattle.demands.specs.Calls.{Calls, library}
use Rattle.demands.specs.Runs.{BoardCall, offers, handed_out}
use Rattle.unread.specs.Kept.{OnlyUnreadDiffers}
use Rattle.unread.specs.Unread.{NothingUnreadMatters}
use Rattle.unread.proofs.Alike.{AudioAs}
use Rattle.unread.proofs.Messages.{MessageAs, message-as}
use Rattle.unread.proofs.Judges.{JudgedAs, judged-as}

module _ (s r : List ℕ) where
  uri-as : (a b : Audio) → AudioAs s r a b → uri_in s a ≡ uri_in r b
  unfolding uri_in
  uri-as a b h = rw (h.number, h.uri)

  module _ (j k : Judged) (h : JudgedAs s r j k) where
    -- ---- conversion

    text-as : text_in s j ≡ text_in r k
    unfolding text_in
    text-as =
        let i = h.message.alert.info in
        rw (h.body, (i.parameters.each 1 (omega arith)).value, i.sender_name.value, i.description.value, i.instruction.value)

    header-by-as : (station : List ℕ) → header_by s station j ≡ header_by r station k
    unfolding header_by
    header-by-as station = rw ((h.message.alert.info.parameters.each 2 (omega arith)).value, h.body)

    text-by-as : text_by s j ≡ text_by r k
    unfolding text_by
    text-by-as =
        let i = h.message.alert.info in
        rw (text-as, uri-as _ _ i.audio, i.audio.number)

    -- what is given alike comes to the same outcome
    outcome-as : {A : Type 0} (none : A) (x y : Judged → A) → x j ≡ y k → outcome_of none x j ≡ outcome_of none y k
    unfolding outcome_of
    outcome-as none x y e = rw (e, h.number, h.field, h.quiet)

    -- ---- records

    own-as : own_in s j.message ≡ own_in r k.message
    unfolding own_in
    own-as =
        let a = h.message.alert in
        rw (h.message.sent, a.sender.value, a.identifier.value)

    header-as : zero_filled_header j ≡ zero_filled_header k
    unfolding zero_filled_header
    header-as = rw h.body

    left_as : alert_by s j ≡ alert_by r k
    unfolding alert_by
    left_as = rw (own-as, header-as, h.quiet, h.message.msg_type, h.message.alert.references.value)

  -- ---- the Canadian mode

  by_as : (m n : Message) → MessageAs s r m n → canadian_by s m ≡ canadian_by r n
  unfolding canadian_by words_given canadian_given
  by_as m n h =
      let i = h.alert.info in
      rw (
        h.number,
        h.field,
        (i.parameters.each 3 (omega arith)).value,
        i.description.value,
        i.instruction.value,
        uri-as _ _ i.audio,
        i.audio.number,
      )

  module _ (d : OnlyUnreadDiffers s r) where
    h : JudgedAs s r (judged_of s) (judged_of r)
    h = judged-as s r d

    -- of either call: a message that is judged for a station
    same-call : {A : Type 0} (none : A) (x y : Judged → A) → x (judged_of s) ≡ y (judged_of r) → (long : Bool) (station : List ℕ) →
        call_of none x long s station ≡ call_of none y long r station
    unfolding call_of judged_for outcome_of
    same-call none x y e long station = ap (λ (o : Outcome _). pick long o (alone none 2 0)) (go (station_ok station))
      where
        go : (b : Bool) → outcome_of none x (pick b (judged_of s) (refused_before (length s) 3)) ≡ outcome_of none y (pick b (judged_of r) (refused_before (length r) 3))
        go true = outcome-as (judged_of s) (judged_of r) h none x y e
        go false = refl

    same-heading : (station : List ℕ) (header : ℕ) → header_call s station header ≡ header_call r station header
    unfolding header_call
    same-heading station header = same-call no_header (header_by s station) (header_by r station) (header-by-as (judged_of s) (judged_of r) h station) (leb 252 header) station

    same-texting : (station : List ℕ) (text uri : ℕ) → text_call s station text uri ≡ text_call r station text uri
    unfolding text_call
    same-texting station text uri = same-call no_text (text_by s) (text_by r) (text-by-as (judged_of s) (judged_of r) h) (roomy_text text uri) station

    same-canadian : (text uri : ℕ) → canadian_of s text uri ≡ canadian_of r text uri
    unfolding canadian_of
    same-canadian text uri = rw (by_as (message_says s) (message_says r) (message-as s r d))

    same-records : records_of s ≡ records_of r
    unfolding records_of
    same-records = rw (left_as (judged_of s) (judged_of r) h, h.number)

    same-offering : (board : List ℕ) → message_offer board s ≡ message_offer board r
    unfolding message_offer
    same-offering board = rw (same-records, h.number, h.field)

    pub same-program : (room : ℕ) → program_of room s ≡ program_of room r
    unfolding program_of
    same-program room = rw (same-heading (bytes "BENCH/01") 252, same-texting (bytes "BENCH/01") 7200 1024)

pub nothing-unread-matters : NothingUnreadMatters library
nothing-unread-matters = record { heading-same = same-heading; texting-same = same-texting; canadian-same = same-canadian; offering-same = same-offering }

-- whatever offers and hand-outs follow, the same headers are handed out
pub same-activations : (c : Calls) → NothingUnreadMatters c → (s r : List ℕ) → OnlyUnreadDiffers s r → (b : List ℕ) (cs : List BoardCall) →
    handed_out c (offers s ∷ cs) b ≡ handed_out c (offers r ∷ cs) b
same-activations c n s r d b cs = ap (λ (o : MessageOffering). handed_out c cs o.bytes) (n.offering-same s r d b)
