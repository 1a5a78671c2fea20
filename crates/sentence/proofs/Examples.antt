-- Worked examples of the definitions.
use mathlib.Core.List.{◌∷◌}
use mathlib.Core.Path.{◌≡◌, refl}
use lib.ListN.{length, replicate}
use Rattle.octets.specs.Bytes.{same}
use Rattle.octets.specs.Digits.{digits}
use Rattle.octets.specs.Text.{bytes}
use Rattle.parts.specs.declared.Body.{Body}
use Rattle.parts.specs.declared.Originator.TheVariants.{Pep, Eas, Wxr, Civ}
use Rattle.sentence.specs.Words.{org_words, event_words, words_in, location_word, others, location_words, who_words, when_words, sentence_of}

-- the sample of document 01
abbrev pub sample : Body
sample = record { originator = Civ; event = bytes "CEM"; count = 1; locations = 24031 ∷ replicate 30 0; period = 45; day = 95; hour = 18; minute = 0 }

pub sample-sentence : sentence_of sample ≡ bytes "Civil authorities issued Civil Emergency Message for locations 024031, valid from 18:00 UTC on day 095 for 00 hours 45 minutes."
unfolding sentence_of who_words org_words words_in location_words others location_word when_words digits same bytes
sample-sentence = refl

-- locations in their order, a repeat kept; an event without words of its own; 99 hours 30
several : sentence_of (record { originator = Wxr; event = bytes "SVR"; count = 3; locations = 24031 ∷ 1001 ∷ 24031 ∷ replicate 28 0; period = 5970; day = 1; hour = 0; minute = 59 }) ≡ bytes "National Weather Service issued event SVR for locations 024031, 001001, 024031, valid from 00:59 UTC on day 001 for 99 hours 30 minutes."
unfolding sentence_of who_words org_words words_in location_words others location_word when_words digits same bytes
several = refl

-- ORG words and event words as document 01 lists them; any other, `event EEE`
pub record Words : Type 0 where
  pub pep : org_words Pep ≡ bytes "Primary Entry Point System"
  pub eas : org_words Eas ≡ bytes "Broadcast station or cable system"
  pub wxr : org_words Wxr ≡ bytes "National Weather Service"
  pub civ : org_words Civ ≡ bytes "Civil authorities"
  pub ean : event_words (bytes "EAN") ≡ bytes "Emergency Action Notification"
  pub rmt : event_words (bytes "RMT") ≡ bytes "Required Monthly Test"
  pub rwt : event_words (bytes "RWT") ≡ bytes "Required Weekly Test"
  pub cem : event_words (bytes "CEM") ≡ bytes "Civil Emergency Message"
  pub ffw : event_words (bytes "FFW") ≡ bytes "Flash Flood Warning"
  pub tor : event_words (bytes "TOR") ≡ bytes "Tornado Warning"
  pub other : event_words (bytes "TOE") ≡ bytes "event TOE"

words : Words
unfolding org_words words_in same bytes
words = record { pep = refl; eas = refl; wxr = refl; civ = refl; ean = refl; rmt = refl; rwt = refl; cem = refl; ffw = refl; tor = refl; other = refl }

-- at most 389 characters: the longest words, and 31 locations
longest : length (sentence_of (record { originator = Eas; event = bytes "EAN"; count = 31; locations = replicate 31 24031; period = 45; day = 95; hour = 18; minute = 0 })) ≡ 389
unfolding sentence_of who_words org_words words_in location_words others location_word when_words digits same bytes
longest = refl
