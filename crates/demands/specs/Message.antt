-- A message on its tree, and what a conversion gives for it: the header's parts one by one, text, audio and must-carry. s is the message.
use Rattle.std.specs.Prelude.{ℕ, ◌+◌, ◌-◌, ◌≤◌, min, ◌≡◌, Bool, true, ◌&&◌, ◌||◌, not, List, [], ◌∷◌, ◌++◌, map, length, take}
use Prim.Native.String.{String}
use Rattle.octets.specs.Bytes.{every}
use Rattle.octets.specs.Digits.{value}
use Rattle.octets.specs.Text.{bytes}
use Rattle.characters.specs.Utf8.{is_legal, utf8}
use Rattle.characters.specs.Chars.{chars_of}
use Rattle.clock.specs.Time.{time_of, instant_in}
use Rattle.clock.specs.Period.{period_of}
use Rattle.clock.specs.Stamp.{stamp_of}
use Rattle.parts.specs.Originator.{originator_of, known}
use Rattle.parts.specs.Parts.{padded}
use Rattle.parts.specs.declared.Body.{Body}
use Rattle.parts.specs.declared.Parts.{Parts}
use Rattle.header.specs.Header.{header_bytes}
use Rattle.markup.specs.Tree.{Forest, nil, One, one, none}
use Rattle.markup.specs.Document.{doc_at}
use Rattle.values.specs.Value.{small}
use Rattle.gather.specs.Read.{named}
use Rattle.told.specs.Values.{is_none, first_value, is, value_of, Pair, values_where, values_named, event_codes, parameters, geocodes, selected_in, audio_in}
use Rattle.message.specs.Root.{prefix_of}
use Rattle.sentence.specs.Words.{sentence_of}
use Rattle.wording.specs.Text.{text_of}
use Rattle.outputs.specs.Outputs.{TextGiven}
use Rattle.canadian.specs.Canadian.{canadian_text}
use Rattle.convert.specs.Convert.{HeaderGiven}

-- ---- its alert and its selected info

-- the root's prefix
abbrev pub prefix_in : List ℕ → One → List ℕ
prefix_in s (one g kids e) = prefix_of s (g.from + 1) g.name
prefix_in s none = []

-- what the root holds
abbrev pub content_in : One → Forest
content_in (one g kids e) = kids
content_in none = nil

abbrev pub prefix : List ℕ → List ℕ
prefix s = prefix_in s (doc_at s)

abbrev pub alert : List ℕ → Forest
alert s = content_in (doc_at s)

-- what the selected info holds
abbrev pub info : List ℕ → Forest
info s = selected_in s (prefix s) (alert s)

-- the values of their leaves
abbrev pub identifier : List ℕ → List ℕ
identifier s = value_of s (prefix s) "identifier" (alert s)

abbrev pub sender : List ℕ → List ℕ
sender s = value_of s (prefix s) "sender" (alert s)

abbrev pub sent : List ℕ → List ℕ
sent s = value_of s (prefix s) "sent" (alert s)

abbrev pub status : List ℕ → List ℕ
status s = value_of s (prefix s) "status" (alert s)

abbrev pub msg_type : List ℕ → List ℕ
msg_type s = value_of s (prefix s) "msgType" (alert s)

abbrev pub scope : List ℕ → List ℕ
scope s = value_of s (prefix s) "scope" (alert s)

abbrev pub references : List ℕ → List ℕ
references s = value_of s (prefix s) "references" (alert s)

abbrev pub expires : List ℕ → List ℕ
expires s = value_of s (prefix s) "expires" (info s)

abbrev pub sender_name : List ℕ → List ℕ
sender_name s = value_of s (prefix s) "senderName" (info s)

abbrev pub description : List ℕ → List ℕ
description s = value_of s (prefix s) "description" (info s)

abbrev pub instruction : List ℕ → List ℕ
instruction s = value_of s (prefix s) "instruction" (info s)

-- the values of its eventCodes with valueName SAME
abbrev pub events : List ℕ → List (List ℕ)
events s = values_named "SAME" (event_codes s (prefix s) (info s))

-- of its geocodes named SAME, in message order, repeats kept
abbrev pub locations : List ℕ → List (List ℕ)
locations s = values_named "SAME" (geocodes s (prefix s) (info s))

-- the values of its parameters of exactly this name
abbrev pub parameters_named : String → List ℕ → List (List ℕ)
parameters_named w s = values_named w (parameters s (prefix s) (info s))

-- the non-empty values of those named `layer:AEA:2.0:broadcastText`, name in any letter case
abbrev pub is_broadcast : Pair → Bool
is_broadcast x = is "layer:aea:2.0:broadcasttext" (map small x.name) && not (is "" x.value)

abbrev pub broadcast_values : List ℕ → List (List ℕ)
broadcast_values s = values_where is_broadcast (parameters s (prefix s) (info s))

-- ORG: first EAS-ORG parameter; absent means CIV
abbrev pub originator : List ℕ → List ℕ
originator s = first_value (parameters_named "EAS-ORG" s ++ (bytes "CIV" ∷ []))

-- a Cancel with no info, no SAME eventCode, no SAME geocode or no expires is quiet
abbrev pub is_quiet : List ℕ → Bool
is_quiet s =
    is "Cancel" (msg_type s)
    && (is_none (named s (prefix s) "info" (alert s)) || (is_none (events s) || (is_none (locations s) || is_none (named s (prefix s) "expires" (info s)))))

-- seconds since 2000 began in UTC
abbrev pub sent_seconds : List ℕ → ℕ
sent_seconds s = instant_in (time_of (sent s))

abbrev pub expires_seconds : List ℕ → ℕ
expires_seconds s = instant_in (time_of (expires s))

-- ---- what it gives

-- the originator, the one SAME event, the first 31 SAME locations in message order, the period of the seconds from sent to expires, day of year, hour and minute
-- of sent in UTC
unfoldable pub header_body : List ℕ → Body
header_body s = record {
  originator = known (originator_of (originator s));
  event = first_value (events s);
  count = min 31 (length (locations s));
  locations = padded (map value (take 31 (locations s)));
  period = period_of (expires_seconds s - sent_seconds s);
  day = (stamp_of (sent_seconds s)).day;
  hour = (stamp_of (sent_seconds s)).hour;
  minute = (stamp_of (sent_seconds s)).minute;
}

-- and the caller's station
abbrev pub header_parts : List ℕ → List ℕ → Parts
header_parts s station = record { body = header_body s; station = station }

-- the sentence of these parts, with the first EASText, or senderName, description and instruction
abbrev pub alert_text : List ℕ → List ℕ
alert_text s =
    text_of (sentence_of (header_body s)) (first_value (parameters_named "EASText" s)) (sender_name s) (description s) (instruction s)

-- the first broadcast text, or description and instruction
abbrev pub text_in_canada : List ℕ → List ℕ
text_in_canada s = canadian_text (first_value (broadcast_values s)) (description s) (instruction s)

-- must-carry: the first EAS-Must-Carry parameter is `True`
abbrev pub must_carry : List ℕ → Bool
must_carry s = is "True" (first_value (parameters_named "EAS-Must-Carry" s))

-- a text as a call writes it: UTF-8 of characters that are legal in XML 1.0, at most 1,800 of them, and so at most 7,200 bytes
pub record Spelt (t : List ℕ) : Type 0 where
  pub whole : utf8 (chars_of t) ≡ t
  pub legal : every is_legal (chars_of t) ≡ true
  pub characters : length (chars_of t) ≤ 1800
  pub size : length t ≤ 7200

-- header and must-carry of a message that answers 0 and is not quiet
unfoldable pub whole_header : List ℕ → List ℕ → HeaderGiven
whole_header s station = record { header = header_bytes (header_parts s station); carry = must_carry s }

-- its text and audio
unfoldable pub whole_text : List ℕ → TextGiven
whole_text s = record {
  text = utf8 (alert_text s);
  audio = (audio_in s (prefix s) (info s)).number;
  uri = (audio_in s (prefix s) (info s)).uri;
}

-- all that it gives in the Canadian mode, where it answers 0: text and audio only
unfoldable pub whole_in_canada : List ℕ → TextGiven
whole_in_canada s = record {
  text = utf8 (text_in_canada s);
  audio = (audio_in s (prefix s) (info s)).number;
  uri = (audio_in s (prefix s) (info s)).uri;
}
