-- A message judged: numbers 4 to 14, the lowest that applies.
use Rattle.std.specs.Prelude.{ℕ, Bool, true, false, List, eqb, Result, Ok, Err}
use Rattle.octets.specs.Bytes.{pick}
use Rattle.clock.specs.Stamp.{stamp_of}
use Rattle.clock.specs.Period.{period_of}
use Rattle.values.specs.Value.{value_at}
use Rattle.parts.specs.Originator.{is_known, known}
use Rattle.parts.specs.Parts.{no_body}
use Rattle.parts.specs.declared.Originator.{Originator}
use Rattle.parts.specs.declared.Body.{Body}
use Rattle.reads.specs.WorkingLeaves.{eas_org_leaf}
use Rattle.reads.specs.declared.Locations.{Locations}
use Rattle.message.specs.WorkingMessage.{refused_as, message_says, info_in}
use Rattle.message.specs.declared.Message.{Message}
use Rattle.judgement.specs.WorkingRules.{lacks_references, expires_in, event_is, origin_of, located, seconds_to, quiet_of}
use Rattle.judgement.specs.declared.Judged.{Judged}

-- a message that gives no header: refused, or a quiet Cancel, which answers 0
abbrev pub without : Message → ℕ → Bool → Judged
without m number quiet = record { number = number; field = m.field; quiet = quiet; body = no_body; message = m }

-- a refusal before anything is read of a message of n bytes
abbrev pub refused_before : ℕ → ℕ → Judged
refused_before n number = without (refused_as n number) number false

-- the header through the dash after JJJHHMM: the first 31 locations in message order, the period of the seconds from sent to expires, and sent in UTC
unfoldable pub body_with : Originator → List ℕ → Locations → ℕ → ℕ → Body
body_with originator event locations seconds sent = record {
  originator = originator;
  event = event;
  count = locations.count;
  locations = locations.list;
  period = period_of seconds;
  day = (stamp_of sent).day;
  hour = (stamp_of sent).hour;
  minute = (stamp_of sent).minute;
}

-- the seconds of the message's period
abbrev pub lasting : List ℕ → Message → ℕ
lasting s m = seconds_to s (expires_in m) m.sent

abbrev pub body_in : List ℕ → Message → Body
body_in s m =
    body_with
    (known (origin_of s (eas_org_leaf (info_in m))))
    (value_at s (info_in m).events.same.at)
    (info_in m).locations
    (lasting s m)
    m.sent

-- a message with its body, or the number that it is refused by
abbrev pub answered : Message → Result Body ℕ → Judged
answered m (Ok body) = record { number = 0; field = m.field; quiet = false; body = body; message = m }
answered m (Err number) = without m number false

-- 11 SAME event absent, twice or malformed; 12 originator; 13 SAME location absent or malformed; 14 expires absent, malformed or not after sent
unfoldable pub alerted : List ℕ → Message → Judged
alerted s m =
    pick (event_is s (info_in m).events.same)
    (pick (is_known (origin_of s (eas_org_leaf (info_in m))))
    (pick (located (info_in m).locations)
    (pick (eqb (lasting s m) 0)
    (without m 14 false)
    (record { number = 0; field = m.field; quiet = false; body = body_in s m; message = m }))
    (without m 13 false))
    (without m 12 false))
    (without m 11 false)

-- 4 to 9; 10 references missing, malformed or over 16; a quiet Cancel answers 0, and numbers 11 to 14 aren't asked
unfoldable pub judged_by : List ℕ → Message → Judged
judged_by s m =
    pick (eqb m.number 0)
    (pick (lacks_references s m) (without m 10 false)
    (pick (quiet_of m) (without m 0 true) (alerted s m)))
    (without m m.number false)

abbrev pub judged_of : List ℕ → Judged
judged_of s = judged_by s (message_says s)
