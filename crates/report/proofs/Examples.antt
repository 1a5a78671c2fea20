-- Worked examples of the definitions.
use mathlib.Core.Bool.{false, true}
use mathlib.Core.List.{[], ◌++◌}
use mathlib.Core.Path.{◌≡◌, refl}
use Rattle.octets.specs.Digits.{digits}
use Rattle.octets.specs.Text.{bytes}
use Rattle.report.specs.Lines.{decimal, line, or_none, kind_then_uri, audio_words, number_line, value_line, audio_line, carry_line, alert_lines, lines_of}

-- the sample of document 01
sample : lines_of 0 0 (bytes "ZCZC-CIV-CEM-024031+0045-0951800-BENCH/01-") 0 [] false (bytes "Civil authorities issued Civil Emergency Message for locations 024031, valid from 18:00 UTC on day 095 for 00 hours 45 minutes. Message from County Bench. Water main broken. Boil water.") ≡
    line (bytes "number 0 field 0") ++
    line (bytes "header ZCZC-CIV-CEM-024031+0045-0951800-BENCH/01-") ++
    line (bytes "audio none") ++
    line (bytes "carry no") ++
    line (bytes "text Civil authorities issued Civil Emergency Message for locations 024031, valid from 18:00 UTC on day 095 for 00 hours 45 minutes. Message from County Bench. Water main broken. Boil water.")
unfolding lines_of alert_lines carry_line audio_line value_line number_line audio_words kind_then_uri or_none line decimal digits bytes
sample = refl

-- an alert with audio that must be carried
streamed : lines_of 0 0 (bytes "H") 3 (bytes "http://a/b") true (bytes "T") ≡
    line (bytes "number 0 field 0") ++ line (bytes "header H") ++ line (bytes "audio stream http://a/b") ++ line (bytes "carry yes") ++ line (bytes "text T")
unfolding lines_of alert_lines carry_line audio_line value_line number_line audio_words kind_then_uri or_none line decimal digits bytes
streamed = refl

-- a quiet Cancel
quiet : lines_of 0 0 [] 0 [] false [] ≡
    line (bytes "number 0 field 0") ++ line (bytes "header none") ++ line (bytes "audio none") ++ line (bytes "carry no") ++ line (bytes "text none")
unfolding lines_of alert_lines carry_line audio_line value_line number_line audio_words kind_then_uri or_none line decimal digits bytes
quiet = refl

-- refusals
faulty : lines_of 7 3 [] 0 [] false [] ≡ line (bytes "number 7 field 3")
unfolding lines_of number_line line decimal digits bytes
faulty = refl

expired : lines_of 14 0 [] 0 [] false [] ≡ line (bytes "number 14 field 0")
unfolding lines_of number_line line decimal digits bytes
expired = refl
