-- A message as document 01 reads and judges it, up to number 9.
use Rattle.std.specs.Prelude.{ℕ, ◌+◌, Bool, true, false, Option, Some, None, List, length}
use Rattle.octets.specs.Bytes.{pick, between}
use Rattle.clock.specs.Time.{instant_in}
use Rattle.markup.specs.Tree.{One, one, none}
use Rattle.markup.specs.Document.{doc_at}
use Rattle.reads.specs.WorkingLeaves.{nothing_read, sent_leaf}
use Rattle.reads.specs.declared.Alert.{Alert}
use Rattle.reads.specs.declared.Info.{Info}
use Rattle.reads.specs.declared.Context.{Context}
use Rattle.reads.specs.declared.Context.TheVariants.{Root, Skipped}
use Rattle.gather.specs.WorkingRead.{alert_of}
use Rattle.fields.specs.declared.MsgType.{MsgType}
use Rattle.message.specs.Root.{prefix_of, root_ok}
use Rattle.message.specs.WorkingJudged.{timed, msg_type_of, field_of, message_number}
use Rattle.message.specs.declared.Message.{Message}

-- a refusal returns its number, zeros elsewhere
abbrev pub refused_as : ℕ → ℕ → Message
refused_as n number = record { number = number; field = 0; msg_type = MsgType.Unknown; sent = 0; alert = (nothing_read n).alert }

-- what is read in an alert, with its number
unfoldable pub judged : List ℕ → Alert → Message
judged s a = record {
  number = message_number s a;
  field = field_of s a;
  msg_type = msg_type_of s a;
  sent = instant_in (timed s (sent_leaf a));
  alert = a;
}

-- what is judged by the alert in a root that is accepted or not: 5 where there is none
abbrev pub alert_judged : List ℕ → Bool → Option Alert → Message
alert_judged s ok None = refused_as (length s) 5
alert_judged s ok (Some a) = pick ok (judged s a) (refused_as (length s) 6)

-- 5 not of the subset; 6 root
unfoldable pub judged_root : List ℕ → List ℕ → Bool → One → Message
judged_root s p ok none = refused_as (length s) 5
judged_root s p ok (one g kids e) = pick ok (judged s (alert_of s p kids)) (refused_as (length s) 6)

-- every other element is skipped whole: all that is in a root that is not accepted
unfoldable pub root_context : Bool → Context
root_context true = Root
root_context false = Skipped

unfoldable pub of_root : List ℕ → One → Message
of_root s none = refused_as (length s) 5
of_root s (one g kids e) = judged_root s (prefix_of s (g.from + 1) g.name) (root_ok s (g.from + 1) g.name) (one g kids e)

-- 4 message length: 1 to 32,768 bytes
unfoldable pub message_says : List ℕ → Message
message_says s = pick (between 1 32768 (length s)) (of_root s (doc_at s)) (refused_as (length s) 4)

-- the info that is selected
abbrev pub info_in : Message → Info
info_in m = m.alert.info
