-- The records that an offer of a message adds: the notice (unless quiet) and one withdrawal per reference of an Update or Cancel.
use Rattle.std.specs.Prelude.{ℕ, List, [], ◌∷◌, map, eqb}
use Rattle.octets.specs.Bytes.{pick}
use Rattle.clock.specs.Time.{time_of, instant_in}
use Rattle.header.specs.Body.{body_bytes}
use Rattle.values.specs.Value.{value_at}
use Rattle.fields.specs.References.{sender_of, identifier_of, sent_of, words}
use Rattle.reads.specs.WorkingLeaves.{identifier_leaf, sender_leaf, references_leaf}
use Rattle.message.specs.declared.Message.{Message}
use Rattle.judgement.specs.WorkingRules.{asks_references}
use Rattle.judgement.specs.WorkingJudged.{judged_of}
use Rattle.judgement.specs.declared.Judged.{Judged}
use Rattle.records.specs.Record.{pad, key_of}
use Rattle.ledger.specs.WorkingBoard.{Alert, records}

abbrev pub own_identifier : List ℕ → Message → List ℕ
own_identifier s m = value_at s (identifier_leaf m.alert).at

abbrev pub own_sender : List ℕ → Message → List ℕ
own_sender s m = value_at s (sender_leaf m.alert).at

abbrev pub own_references : List ℕ → Message → List ℕ
own_references s m = value_at s (references_leaf m.alert).at

-- its own sent, sender and identifier
unfoldable pub own_in : List ℕ → Message → List ℕ
own_in s m = key_of m.sent (own_sender s m) (own_identifier s m)

-- the header through the dash after JJJHHMM, zero-filled
unfoldable pub zero_filled_header : Judged → List ℕ
zero_filled_header j = pad 243 (body_bytes j.body)

-- the sent, sender and identifier of a group `sender,identifier,sent`
unfoldable pub named_by : List ℕ → List ℕ
named_by w = key_of (instant_in (time_of (sent_of w))) (sender_of w) (identifier_of w)

-- what a message leaves that is taken
unfoldable pub alert_by : List ℕ → Judged → Alert
alert_by s j = record {
  own = own_in s j.message;
  carries = pick j.quiet [] (zero_filled_header j ∷ []);
  names = pick (asks_references j.message.msg_type) (map named_by (words (own_references s j.message))) [];
}

-- the records of a message; none where it is refused
unfoldable pub records_of : List ℕ → List (List ℕ)
records_of s = pick (eqb (judged_of s).number 0) (records (alert_by s (judged_of s))) []
