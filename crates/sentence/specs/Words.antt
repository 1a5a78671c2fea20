-- The sentence: `{ORG words} issued {event words} for locations {codes joined by ", "}, valid from {HH}:{MM} UTC on day {JJJ} for {TT} hours {TT} minutes.`
use Rattle.std.specs.Prelude.{ℕ, ◌/◌, ◌%◌, List, [], ◌∷◌, ◌++◌, take}
use Prim.Native.String.{String}
use Rattle.octets.specs.Bytes.{pick, same}
use Rattle.octets.specs.Digits.{digits}
use Rattle.octets.specs.Text.{bytes}
use Rattle.parts.specs.declared.Body.{Body}
use Rattle.parts.specs.declared.Originator.{Originator}
use Rattle.parts.specs.declared.Originator.TheVariants.{Pep, Eas, Wxr, Civ}

-- ORG words: Primary Entry Point System; Broadcast station or cable system; National Weather Service; Civil authorities
unfoldable pub org_words : Originator → List ℕ
org_words Pep = bytes "Primary Entry Point System"
org_words Eas = bytes "Broadcast station or cable system"
org_words Wxr = bytes "National Weather Service"
org_words Civ = bytes "Civil authorities"

pub record EventWords : Type 0 where
  pub code : List ℕ
  pub words : List ℕ

abbrev pub event_named : String → String → EventWords
event_named code words = record { code = bytes code; words = bytes words }

-- event words: EAN Emergency Action Notification, RMT Required Monthly Test, RWT Required Weekly Test, CEM Civil Emergency Message, FFW Flash Flood Warning, TOR Tornado Warning
abbrev pub event_table : List EventWords
event_table =
    event_named "EAN" "Emergency Action Notification" ∷
    event_named "RMT" "Required Monthly Test" ∷
    event_named "RWT" "Required Weekly Test" ∷
    event_named "CEM" "Civil Emergency Message" ∷
    event_named "FFW" "Flash Flood Warning" ∷
    event_named "TOR" "Tornado Warning" ∷
    []

-- any other, `event EEE`
unfoldable pub words_in : List EventWords → List ℕ → List ℕ
words_in [] e = bytes "event " ++ e
words_in (r ∷ rs) e = pick (same e r.code) r.words (words_in rs e)

abbrev pub event_words : List ℕ → List ℕ
event_words e = words_in event_table e

-- how the sentence names one location: by its code
unfoldable pub location_word : ℕ → List ℕ
location_word v = digits 6 v

-- codes joined by ", "
unfoldable pub others : List ℕ → List ℕ
others [] = []
others (v ∷ vs) = bytes ", " ++ location_word v ++ others vs

unfoldable pub location_words : List ℕ → List ℕ
location_words [] = []
location_words (v ∷ vs) = location_word v ++ others vs

-- `{ORG words} issued {event words} for locations `
unfoldable pub who_words : Originator → List ℕ → List ℕ
who_words o e = org_words o ++ bytes " issued " ++ event_words e ++ bytes " for locations "

-- `, valid from {HH}:{MM} UTC on day {JJJ} for {TT} hours {TT} minutes.`, of a period in minutes
unfoldable pub when_words : ℕ → ℕ → ℕ → ℕ → List ℕ
when_words period day hour minute =
    bytes ", valid from " ++ digits 2 hour ++ bytes ":" ++ digits 2 minute ++
    bytes " UTC on day " ++ digits 3 day ++
    bytes " for " ++ digits 2 (period / 60) ++ bytes " hours " ++ digits 2 (period % 60) ++ bytes " minutes."

unfoldable pub sentence_of : Body → List ℕ
sentence_of b = who_words b.originator b.event ++ location_words (take b.count b.locations) ++ when_words b.period b.day b.hour b.minute
