-- Whole messages and what the program prints for each, as a single table under a single statement: `AllWorked table`. A message is the sample of document 01 but for
-- the pieces that its row names.
use Rattle.std.specs.Prelude.{ℕ, zero, suc, ◌≡◌, List, [], ◌∷◌, ◌++◌}
use Prim.Native.String.{String}
use Rattle.octets.specs.Bytes.{pick, same}
use Rattle.octets.specs.Text.{bytes}
use Rattle.report.specs.Lines.{line, number_line, audio_line, carry_line}
use Rattle.report.specs.Program.{BothOutcomes, bench_of, printed}

-- ---- elements

-- an element that holds this
abbrev pub element : String → List ℕ → List ℕ
element name held = bytes "<" ++ bytes name ++ bytes ">" ++ held ++ bytes "</" ++ bytes name ++ bytes ">"

abbrev pub leaf : String → String → List ℕ
leaf name text = element name (bytes text)

-- an eventCode, a parameter or a geocode
abbrev pub pair_element : String → String → String → List ℕ
pair_element name valueName value = element name (leaf "valueName" valueName ++ leaf "value" value)

abbrev pub parameter_element : String → String → List ℕ
parameter_element valueName value = pair_element "parameter" valueName value

abbrev pub geocode_element : String → List ℕ
geocode_element code = pair_element "geocode" "SAME" code

abbrev pub resource_element : String → String → List ℕ
resource_element mimeType uri = element "resource" (leaf "mimeType" mimeType ++ leaf "uri" uri)

-- ---- the sample in pieces

-- what stands in the place of an element
pub record SamplePiece : Type 0 where
  pub name : String
  pub stands : List ℕ

abbrev pub in_place : String → List ℕ → SamplePiece
in_place name stands = record { name = name; stands = stands }

-- a leaf of this value
abbrev pub leaf_in_place : String → String → SamplePiece
leaf_in_place name text = in_place name (leaf name text)

-- this, as it is written
abbrev pub xml : String → String → SamplePiece
xml name text = in_place name (bytes text)

-- the element is missing
abbrev pub no : String → SamplePiece
no name = in_place name []

-- the eventCode SAME
abbrev pub event_in_place : String → SamplePiece
event_in_place code = in_place "eventCode" (pair_element "eventCode" "SAME" code)

abbrev pub area_in_place : List ℕ → SamplePiece
area_in_place geocodes = in_place "area" (element "area" geocodes)

-- what stands for a piece: the change that names it, else itself
unfoldable pub changed : List SamplePiece → SamplePiece → List ℕ
changed [] p = p.stands
changed (c ∷ cs) p = pick (same (bytes c.name) (bytes p.name)) c.stands (changed cs p)

unfoldable pub pieces_written : List SamplePiece → List SamplePiece → List ℕ
pieces_written cs [] = []
pieces_written cs (p ∷ ps) = changed cs p ++ pieces_written cs ps

abbrev pub head : List SamplePiece
head =
    leaf_in_place "identifier" "B1"
    ∷ leaf_in_place "sender" "b@c"
    ∷ leaf_in_place "sent" "2010-04-05T14:00:30-04:00"
    ∷ leaf_in_place "status" "Actual"
    ∷ leaf_in_place "msgType" "Alert"
    ∷ leaf_in_place "scope" "Public"
    ∷ no "references"
    ∷ []

abbrev pub body : List SamplePiece
body =
    no "language"
    ∷ event_in_place "CEM"
    ∷ leaf_in_place "expires" "2010-04-05T14:45:30-04:00"
    ∷ leaf_in_place "senderName" "County Bench"
    ∷ leaf_in_place "description" "Water main broken."
    ∷ leaf_in_place "instruction" "Boil water."
    ∷ no "parameter"
    ∷ no "resource"
    ∷ area_in_place (geocode_element "024031")
    ∷ []

-- the sample's info with these changes
abbrev pub sample_info : List SamplePiece → List ℕ
sample_info cs = element "info" (pieces_written cs body)

-- the sample with these changes, one of which may stand for its info
abbrev pub alert_with : List SamplePiece → List ℕ
alert_with cs = bytes "<alert xmlns=\"urn:oasis:names:tc:emergency:cap:1.2\">" ++ pieces_written cs head ++ changed cs (in_place "info" (sample_info cs)) ++ bytes "</alert>"

-- without any, as document 01 prints it
abbrev pub sample : List ℕ
sample =
    bytes "<alert xmlns=\"urn:oasis:names:tc:emergency:cap:1.2\"><identifier>B1</identifier><sender>b@c</sender>"
    ++ bytes "<sent>2010-04-05T14:00:30-04:00</sent><status>Actual</status><msgType>Alert</msgType><scope>Public</scope>"
    ++ bytes "<info><eventCode><valueName>SAME</valueName><value>CEM</value></eventCode><expires>2010-04-05T14:45:30-04:00</expires>"
    ++ bytes "<senderName>County Bench</senderName><description>Water main broken.</description><instruction>Boil water.</instruction>"
    ++ bytes "<area><geocode><valueName>SAME</valueName><value>024031</value></geocode></area></info></alert>"

-- without what the text says behind its sentence
abbrev pub wordless : List SamplePiece
wordless = no "senderName" ∷ no "description" ∷ no "instruction" ∷ []

abbrev pub brief : List SamplePiece → List ℕ
brief cs = alert_with (cs ++ wordless)

-- an Update, with this for its references
abbrev pub update : List ℕ → List ℕ
update references = brief (leaf_in_place "msgType" "Update" ∷ in_place "references" references ∷ [])

-- references to another alert
abbrev pub earlier : List ℕ
earlier = leaf "references" "b@c,A1,2010-04-05T13:00:30-04:00"

-- a Cancel of it, with these changes
abbrev pub cancel : List SamplePiece → List ℕ
cancel cs = brief (leaf_in_place "msgType" "Cancel" ∷ in_place "references" earlier ∷ cs)

-- a Cancel without info, under the prefix p
abbrev pub prefixed : List ℕ
prefixed =
    bytes "<p:alert xmlns:p='urn:oasis:names:tc:emergency:cap:1.2'><p:identifier>B1</p:identifier><p:sender>b@c</p:sender>"
    ++ bytes "<p:sent>2010-04-05T14:00:30-04:00</p:sent><p:status>Actual</p:status><p:msgType>Cancel</p:msgType><p:scope>Public</p:scope>"
    ++ bytes "<p:references>b@c,A1,2010-04-05T13:00:30-04:00</p:references></p:alert>"

-- n times the same
unfoldable pub repeated : ℕ → List ℕ → List ℕ
repeated zero t = []
repeated (suc n) t = t ++ repeated n t

-- ---- rows

pub record WorkedRow : Type 0 where
  pub message : List ℕ
  pub asks : BothOutcomes → List ℕ
  pub prints : List (List ℕ)

-- what is asked of both calls: all that is printed, or its first line alone, or that and one more, by the call that gives it
abbrev pub number : BothOutcomes → List ℕ
number o = number_line o.headed.number o.headed.field

abbrev pub audio : BothOutcomes → List ℕ
audio o = number_line o.worded.number o.worded.field ++ audio_line o.worded.given.audio o.worded.given.uri

abbrev pub carry : BothOutcomes → List ℕ
carry o = number o ++ carry_line o.headed.given.carry

-- refused: the number and the field, and no more
abbrev pub refused_line : List ℕ → String → WorkedRow
refused_line m line = record { message = m; asks = printed; prints = bytes line ∷ [] }

-- none of the numbers applies
abbrev pub taken_line : List ℕ → WorkedRow
taken_line m = record { message = m; asks = number; prints = bytes "number 0 field 0" ∷ [] }

-- a quiet Cancel prints `none`, `none`, `no`, `none`
abbrev pub quiet : List ℕ → WorkedRow
quiet m = record {
  message = m;
  asks = printed;
  prints = bytes "number 0 field 0" ∷ bytes "header none" ∷ bytes "audio none" ∷ bytes "carry no" ∷ bytes "text none" ∷ [];
}

-- an alert without audio that need not be carried: its header, and the text, a sentence and the rest
abbrev pub worded : List ℕ → String → String → List ℕ → WorkedRow
worded m header sentence rest = record {
  message = m;
  asks = printed;
  prints =
      bytes "number 0 field 0"
      ∷ (bytes "header " ++ bytes header)
      ∷ bytes "audio none"
      ∷ bytes "carry no"
      ∷ (bytes "text " ++ bytes sentence ++ rest)
      ∷ [];
}

-- the text is the sentence alone
abbrev pub sentence_alone : List ℕ → String → String → WorkedRow
sentence_alone m header sentence = worded m header sentence []

-- the sample's header and sentence
abbrev pub told_bytes : List ℕ → List ℕ → WorkedRow
told_bytes m rest =
    worded m
    "ZCZC-CIV-CEM-024031+0045-0951800-BENCH/01-"
    "Civil authorities issued Civil Emergency Message for locations 024031, valid from 18:00 UTC on day 095 for 00 hours 45 minutes."
    rest

abbrev pub told : List ℕ → String → WorkedRow
told m rest = told_bytes m (bytes rest)

-- the audio, and whether it must be carried
abbrev pub heard : List ℕ → String → WorkedRow
heard m line = record { message = m; asks = audio; prints = bytes "number 0 field 0" ∷ bytes line ∷ [] }

abbrev pub carry_lines : List ℕ → String → WorkedRow
carry_lines m line = record { message = m; asks = carry; prints = bytes "number 0 field 0" ∷ bytes line ∷ [] }

-- each line ends in byte 10
unfoldable pub lines : List (List ℕ) → List ℕ
lines [] = []
lines (l ∷ ls) = line l ++ lines ls

unfoldable pub WorkedHolds : WorkedRow → Type 0
WorkedHolds r = r.asks (bench_of r.message) ≡ lines r.prints

-- the statement
unfoldable pub AllWorked : List WorkedRow → Type 0
AllWorked [] = Unit {0}
AllWorked (r ∷ rs) = WorkedHolds r × AllWorked rs

-- ---- reading the message

unfoldable pub messages : List WorkedRow
messages =
    -- the sample of document 01
    told sample " Message from County Bench. Water main broken. Boil water."
    -- an optional declaration at the first byte, then white space and comments, one root element, white space and comments
    ∷ taken_line (bytes "<?xml version=\"1.0\"?> <!-- bench -->" ++ brief [] ++ bytes " <!-- end -->")
    -- or `p:alert` for one prefix p with `xmlns:p` equal to it; elements read carry the root's prefix
    ∷ quiet prefixed
    -- every other element is skipped whole
    ∷ refused_line (bytes "<p:alert xmlns:p='urn:oasis:names:tc:emergency:cap:1.2'>" ++ pieces_written [] head ++ bytes "</p:alert>") "number 7 field 1"
    ∷ taken_line (brief (xml "language" "<z><language>fr</language></z><q:expires/>" ∷ []))
    -- a leaf's value is its decoded text without comments, white space collapsed: ends trimmed, each run one space
    ∷ told (alert_with (xml "description" "<description> Wa<!-- -->ter  &#109;ain &#32;broken &amp; dry. </description>" ∷ []))
    " Message from County Bench. Water main broken & dry. Boil water."
    -- 4: a message is 1 to 32,768 bytes
    ∷ refused_line (bytes "") "number 4 field 0"
    -- 5: an end tag repeats the name exactly
    ∷ refused_line (bytes "<a><b></a>") "number 5 field 0"
    -- the same attribute name twice is refused
    ∷ refused_line (brief (xml "language" "<z a='1' b='2' a='1'/>" ∷ [])) "number 5 field 0"
    ∷ taken_line (brief (xml "language" "<z a='1' b='2' c='1'/>" ∷ []))
    -- a name is 1 to 64 bytes
    ∷ refused_line (brief (in_place "language" (bytes "<" ++ repeated 65 (bytes "z") ++ bytes "/>") ∷ [])) "number 5 field 0"
    ∷ taken_line (brief (in_place "language" (bytes "<" ++ repeated 64 (bytes "z") ++ bytes "/>") ∷ []))
    -- `--` inside a comment is refused, at its end too
    ∷ refused_line (brief (xml "language" "<!-- a -- b -->" ∷ [])) "number 5 field 0"
    ∷ refused_line (brief (xml "language" "<!-- a --->" ∷ [])) "number 5 field 0"
    -- `]]>` in text and CDATA are refused
    ∷ refused_line (brief (leaf_in_place "description" "Wa]]>ter" ∷ [])) "number 5 field 0"
    ∷ refused_line (brief (leaf_in_place "description" "<![CDATA[Water]]>" ∷ [])) "number 5 field 0"
    -- 6: `xmlns` equal to urn:oasis:names:tc:emergency:cap:1.2
    ∷ refused_line (bytes "<alert xmlns='urn:oasis:names:tc:emergency:cap:1.1'/>") "number 6 field 0"
    -- the root is `alert`
    ∷ refused_line (bytes "<info xmlns='urn:oasis:names:tc:emergency:cap:1.2'/>") "number 6 field 0"
    -- 1 identifier, exactly once, not empty
    ∷ refused_line (brief (no "identifier" ∷ [])) "number 7 field 1"
    ∷ refused_line (brief (xml "identifier" "<identifier>B1</identifier><identifier>B1</identifier>" ∷ [])) "number 7 field 1"
    ∷ refused_line (brief (leaf_in_place "identifier" "" ∷ [])) "number 7 field 1"
    -- without comma
    ∷ refused_line (brief (leaf_in_place "identifier" "B,1" ∷ [])) "number 7 field 1"
    -- a leaf that holds an element
    ∷ refused_line (brief (leaf_in_place "identifier" "B1<q:z/>" ∷ [])) "number 7 field 1"
    -- 2 sender, 33 to 126
    ∷ refused_line (brief (leaf_in_place "sender" "b c" ∷ [])) "number 7 field 2"
    -- 3 sent: `Z` is refused
    ∷ refused_line (brief (leaf_in_place "sent" "2010-04-05T18:00:30Z" ∷ [])) "number 7 field 3"
    -- a real Gregorian date
    ∷ refused_line (brief (leaf_in_place "sent" "2011-02-29T14:00:30-04:00" ∷ [])) "number 7 field 3"
    -- 2000-01-01T00:30:00+01:00 as sent is 7, field 3
    ∷ refused_line (brief (leaf_in_place "sent" "2000-01-01T00:30:00+01:00" ∷ [])) "number 7 field 3"
    -- values of status, msgType and scope unknown to CAP 1.2 are fault 7
    ∷ refused_line (brief (leaf_in_place "status" "actual" ∷ [])) "number 7 field 4"
    ∷ refused_line (brief (leaf_in_place "msgType" "Notice" ∷ [])) "number 7 field 5"
    ∷ refused_line (brief (leaf_in_place "scope" "Open" ∷ [])) "number 7 field 6"
    -- each exactly once
    ∷ refused_line (brief (no "status" ∷ [])) "number 7 field 4"
    ∷ refused_line (brief (xml "msgType" "<msgType>Alert</msgType><msgType>Alert</msgType>" ∷ [])) "number 7 field 5"
    ∷ refused_line (brief (leaf_in_place "scope" "" ∷ [])) "number 7 field 6"
    -- the lowest of 1 to 6 at fault
    ∷ refused_line (brief (no "sender" ∷ leaf_in_place "status" "Real" ∷ no "scope" ∷ [])) "number 7 field 2"
    ∷ refused_line (brief (no "scope" ∷ xml "expires" "<expires/><expires/>" ∷ [])) "number 7 field 6"
    -- else 7: a leaf that is read and repeated, or holds an element
    ∷ refused_line (brief (xml "expires" "<expires>2010-04-05T14:45:30-04:00</expires><expires/>" ∷ [])) "number 7 field 7"
    ∷ refused_line (brief (xml "senderName" "<senderName/><senderName/>" ∷ [])) "number 7 field 7"
    ∷ refused_line (brief (leaf_in_place "description" "Water <b>main</b> broken." ∷ [])) "number 7 field 7"
    ∷ refused_line (brief (xml "instruction" "<instruction/><instruction/>" ∷ [])) "number 7 field 7"
    ∷ refused_line (brief (xml "resource" "<resource><uri>u</uri><uri>u</uri></resource>" ∷ [])) "number 7 field 7"
    -- so is a valueName or value missing in a read eventCode, parameter or geocode
    ∷ refused_line (brief (xml "eventCode" "<eventCode><value>CEM</value></eventCode>" ∷ [])) "number 7 field 7"
    ∷ refused_line (brief (xml "parameter" "<parameter><valueName>EASText</valueName></parameter>" ∷ [])) "number 7 field 7"
    ∷ refused_line (brief (area_in_place (bytes "<geocode><valueName>SAME</valueName></geocode>") ∷ [])) "number 7 field 7"
    -- apart from language, which is read in each
    ∷ refused_line (brief (in_place "info" (sample_info wordless ++ bytes "<info><language>es</language><language>es</language></info>") ∷ [])) "number 7 field 7"
    ∷ []

-- ---- the info that is selected; numbers 8 to 10

unfoldable pub numbers : List WorkedRow
numbers =
    -- the first info whose language is absent
    taken_line (brief (in_place "info" (bytes "<info><language>fr</language></info>" ++ sample_info wordless ++ bytes "<info/>") ∷ []))
    -- empty
    ∷ taken_line (brief (in_place "info" (bytes "<info><language>fr</language></info>" ++ sample_info (leaf_in_place "language" "" ∷ wordless)) ∷ []))
    -- or `en-US` in any letter case is selected
    ∷ taken_line (brief (in_place "info" (bytes "<info><language>en</language></info>" ++ sample_info (leaf_in_place "language" "EN-us" ∷ wordless) ++ bytes "<info/>") ∷ []))
    ∷ refused_line (brief (in_place "info" (bytes "<info/>" ++ sample_info wordless) ∷ [])) "number 11 field 0"
    -- if none, the first
    ∷ taken_line (brief (in_place "info" (sample_info (leaf_in_place "language" "fr" ∷ wordless) ++ bytes "<info><language>es</language></info>") ∷ []))
    -- only it is judged further
    ∷ taken_line (brief (in_place "info" (bytes "<info><language>fr</language><expires/><expires/></info>" ++ sample_info wordless) ∷ []))
    ∷ taken_line (brief (in_place "info" (sample_info wordless ++ bytes "<info><eventCode/></info>") ∷ []))
    -- 8: status not Actual
    ∷ refused_line (brief (leaf_in_place "status" "Exercise" ∷ [])) "number 8 field 0"
    -- or scope not Public
    ∷ refused_line (brief (leaf_in_place "scope" "Private" ∷ [])) "number 8 field 0"
    -- 9: msgType Ack or Error
    ∷ refused_line (brief (leaf_in_place "msgType" "Ack" ∷ [])) "number 9 field 0"
    ∷ refused_line (brief (leaf_in_place "msgType" "Error" ∷ [])) "number 9 field 0"
    -- lowest applicable wins
    ∷ refused_line (brief (leaf_in_place "status" "Test" ∷ xml "expires" "<expires/><expires/>" ∷ [])) "number 7 field 7"
    ∷ refused_line (brief (leaf_in_place "scope" "Restricted" ∷ leaf_in_place "msgType" "Ack" ∷ [])) "number 8 field 0"
    -- an Update of another alert; the groups are parted by space
    ∷ taken_line (update earlier)
    ∷ taken_line (update (leaf "references" " b@c,A1,2010-04-05T13:00:30-04:00  b@c,A2,2010-04-05T13:00:30+00:00 "))
    -- 10: references missing
    ∷ refused_line (update []) "number 10 field 0"
    -- malformed
    ∷ refused_line (update (leaf "references" "")) "number 10 field 0"
    ∷ refused_line (update (leaf "references" "b@c, A1,2010-04-05T13:00:30-04:00")) "number 10 field 0"
    ∷ refused_line (update (leaf "references" "b@c,A1,2010-04-05T17:00:30Z")) "number 10 field 0"
    -- over 16
    ∷ refused_line (update (element "references" (repeated 17 (bytes "b,A,2010-04-05T13:00:30-04:00 ")))) "number 10 field 0"
    -- a repeat or a child element there is answered 10 and never 7
    ∷ refused_line (update (earlier ++ earlier)) "number 10 field 0"
    ∷ refused_line (update (leaf "references" "b@c,A1,2010-04-05T13:00:30-04:00<z/>")) "number 10 field 0"
    -- references are judged only in Update and Cancel
    ∷ taken_line (brief (in_place "references" (leaf "references" "x<z/>" ++ earlier) ∷ []))
    -- lowest applicable wins
    ∷ refused_line (brief (leaf_in_place "status" "Test" ∷ leaf_in_place "msgType" "Update" ∷ [])) "number 8 field 0"
    ∷ refused_line (brief (leaf_in_place "msgType" "Update" ∷ no "eventCode" ∷ [])) "number 10 field 0"
    ∷ []

-- ---- the header; numbers 11 to 14

unfoldable pub header_lines : List WorkedRow
header_lines =
    -- ORG: exactly PEP, EAS, WXR or CIV
    sentence_alone (brief (in_place "parameter" (parameter_element "EAS-ORG" "PEP") ∷ []))
    "ZCZC-PEP-CEM-024031+0045-0951800-BENCH/01-"
    "Primary Entry Point System issued Civil Emergency Message for locations 024031, valid from 18:00 UTC on day 095 for 00 hours 45 minutes."
    ∷ sentence_alone (brief (in_place "parameter" (parameter_element "EAS-ORG" "EAS") ∷ []))
    "ZCZC-EAS-CEM-024031+0045-0951800-BENCH/01-"
    "Broadcast station or cable system issued Civil Emergency Message for locations 024031, valid from 18:00 UTC on day 095 for 00 hours 45 minutes."
    -- first EAS-ORG parameter
    ∷ sentence_alone (brief (in_place "parameter" (parameter_element "EAS-ORG" "WXR" ++ parameter_element "EAS-ORG" "EAS") ∷ []))
    "ZCZC-WXR-CEM-024031+0045-0951800-BENCH/01-"
    "National Weather Service issued Civil Emergency Message for locations 024031, valid from 18:00 UTC on day 095 for 00 hours 45 minutes."
    ∷ taken_line (brief (in_place "parameter" (parameter_element "EAS-ORG" "CIV" ++ parameter_element "EAS-ORG" "XXX") ∷ []))
    -- a name in other letters is another name
    ∷ taken_line (brief (in_place "parameter" (parameter_element "eas-org" "XXX") ∷ []))
    -- 12: originator
    ∷ refused_line (brief (in_place "parameter" (parameter_element "EAS-ORG" "XXX" ++ parameter_element "EAS-ORG" "CIV") ∷ [])) "number 12 field 0"
    ∷ refused_line (brief (in_place "parameter" (parameter_element "EAS-ORG" "") ∷ [])) "number 12 field 0"
    ∷ refused_line (brief (in_place "parameter" (parameter_element "EAS-ORG" "civ") ∷ [])) "number 12 field 0"
    -- EEE: three letters A to Z, known or not
    ∷ sentence_alone (brief (event_in_place "ZZZ" ∷ []))
    "ZCZC-CIV-ZZZ-024031+0045-0951800-BENCH/01-"
    "Civil authorities issued event ZZZ for locations 024031, valid from 18:00 UTC on day 095 for 00 hours 45 minutes."
    -- the one eventCode with valueName SAME
    ∷ taken_line (brief (in_place "eventCode" (pair_element "eventCode" "OTHER" "TOR" ++ pair_element "eventCode" "SAME" "CEM") ∷ []))
    -- 11: SAME event absent
    ∷ refused_line (brief (no "eventCode" ∷ [])) "number 11 field 0"
    ∷ refused_line (brief (in_place "eventCode" (pair_element "eventCode" "same" "CEM") ∷ [])) "number 11 field 0"
    -- twice
    ∷ refused_line (brief (in_place "eventCode" (pair_element "eventCode" "SAME" "CEM" ++ pair_element "eventCode" "SAME" "CEM") ∷ [])) "number 11 field 0"
    -- malformed
    ∷ refused_line (brief (event_in_place "CEm" ∷ [])) "number 11 field 0"
    ∷ refused_line (brief (event_in_place "CEMS" ∷ [])) "number 11 field 0"
    -- locations in message order, repeats kept
    ∷ sentence_alone (brief (in_place "area" (element "area" (geocode_element "024031" ++ geocode_element "001001") ++ element "area" (geocode_element "024031")) ∷ []))
    "ZCZC-CIV-CEM-024031-001001-024031+0045-0951800-BENCH/01-"
    "Civil authorities issued Civil Emergency Message for locations 024031, 001001, 024031, valid from 18:00 UTC on day 095 for 00 hours 45 minutes."
    -- 13: SAME location absent
    ∷ refused_line (brief (no "area" ∷ [])) "number 13 field 0"
    ∷ refused_line (brief (area_in_place (pair_element "geocode" "UGC" "024031") ∷ [])) "number 13 field 0"
    -- malformed: every geocode named SAME must be six digits
    ∷ refused_line (brief (area_in_place (geocode_element "24031") ∷ [])) "number 13 field 0"
    ∷ refused_line (brief (area_in_place (geocode_element "024031" ++ geocode_element "02403X") ∷ [])) "number 13 field 0"
    -- TTTT: n/900 rounded up, times 15 minutes
    ∷ sentence_alone (brief (leaf_in_place "expires" "2010-04-05T14:00:31-04:00" ∷ []))
    "ZCZC-CIV-CEM-024031+0015-0951800-BENCH/01-"
    "Civil authorities issued Civil Emergency Message for locations 024031, valid from 18:00 UTC on day 095 for 00 hours 15 minutes."
    -- JJJHHMM: day of year, hour, minute of sent in UTC, seconds dropped
    ∷ sentence_alone (brief (leaf_in_place "sent" "2012-12-31T23:30:59-01:00" ∷ leaf_in_place "expires" "2013-01-01T01:30:59+00:00" ∷ []))
    "ZCZC-CIV-CEM-024031+0100-0010030-BENCH/01-"
    "Civil authorities issued Civil Emergency Message for locations 024031, valid from 00:30 UTC on day 001 for 01 hours 00 minutes."
    -- 14: expires absent
    ∷ refused_line (brief (no "expires" ∷ [])) "number 14 field 0"
    -- malformed
    ∷ refused_line (brief (leaf_in_place "expires" "2010-04-05T18:45:30Z" ∷ [])) "number 14 field 0"
    -- not after sent
    ∷ refused_line (brief (leaf_in_place "expires" "2010-04-05T18:00:30+00:00" ∷ [])) "number 14 field 0"
    ∷ refused_line (brief (leaf_in_place "expires" "2010-04-05T14:00:29-04:00" ∷ [])) "number 14 field 0"
    -- lowest applicable wins
    ∷ refused_line (brief (no "eventCode" ∷ in_place "parameter" (parameter_element "EAS-ORG" "XXX") ∷ [])) "number 11 field 0"
    ∷ refused_line (brief (in_place "parameter" (parameter_element "EAS-ORG" "XXX") ∷ no "area" ∷ [])) "number 12 field 0"
    ∷ refused_line (brief (no "area" ∷ no "expires" ∷ [])) "number 13 field 0"
    ∷ []

-- ---- text, audio, must-carry

unfoldable pub outputs : List WorkedRow
outputs =
    -- if the first EASText parameter is not empty: a space and it
    told (alert_with (in_place "parameter" (parameter_element "EASText" "Told." ++ parameter_element "EASText" "Again.") ∷ [])) " Told."
    ∷ told (alert_with (in_place "parameter" (parameter_element "EASText" "" ++ parameter_element "EASText" "Again.") ∷ []))
    " Message from County Bench. Water main broken. Boil water."
    ∷ told (brief (in_place "parameter" (parameter_element "EASTEXT" "Told.") ∷ [])) ""
    -- otherwise the non-empty ones
    ∷ told (alert_with (leaf_in_place "senderName" "" ∷ no "instruction" ∷ [])) " Water main broken."
    ∷ told (brief []) ""
    -- audio: `audio/x-ipaws-audio-mp3` (1), `audio/x-ipaws-audio-wav` (2) or `audio/x-ipaws-streaming-audio-mp3` (3), and a uri
    ∷ heard (brief (in_place "resource" (resource_element "audio/x-ipaws-audio-mp3" "http://b/a") ∷ [])) "audio mp3 http://b/a"
    ∷ heard (brief (in_place "resource" (resource_element "audio/x-ipaws-streaming-audio-mp3" "s") ∷ [])) "audio stream s"
    -- the first resource with both
    ∷ heard (brief (in_place "resource" (resource_element "audio/x-ipaws-audio-wav" "w" ++ resource_element "audio/x-ipaws-audio-mp3" "m") ∷ [])) "audio wav w"
    ∷ heard (brief (in_place "resource" (resource_element "image/png" "p" ++ resource_element "audio/x-ipaws-audio-mp3" "m") ∷ [])) "audio mp3 m"
    ∷ heard (brief (in_place "resource" (resource_element "audio/x-ipaws-audio-mp3" "" ++ resource_element "audio/x-ipaws-audio-wav" "w") ∷ [])) "audio wav w"
    -- else 0
    ∷ heard (brief (in_place "resource" (resource_element "audio/x-ipaws-audio-mp3" "") ∷ [])) "audio none"
    -- must-carry: the first EAS-Must-Carry parameter is `True`
    ∷ carry_lines (brief (in_place "parameter" (parameter_element "EAS-Must-Carry" "True" ++ parameter_element "EAS-Must-Carry" "False") ∷ [])) "carry yes"
    ∷ carry_lines (brief (in_place "parameter" (parameter_element "EAS-Must-Carry" "False" ++ parameter_element "EAS-Must-Carry" "True") ∷ [])) "carry no"
    ∷ carry_lines (brief (in_place "parameter" (parameter_element "EAS-Must-Carry" "TRUE") ∷ [])) "carry no"
    ∷ carry_lines (brief (in_place "parameter" (parameter_element "EAS-MUST-CARRY" "True") ∷ [])) "carry no"
    ∷ []

-- ---- Cancels

unfoldable pub cancels : List WorkedRow
cancels =
    -- a Cancel with no info
    quiet (cancel (no "info" ∷ []))
    -- no SAME eventCode
    ∷ quiet (cancel (in_place "eventCode" (pair_element "eventCode" "OTHER" "CEM") ∷ []))
    -- no SAME geocode
    ∷ quiet (cancel (area_in_place (pair_element "geocode" "UGC" "024031") ∷ []))
    -- or no expires is quiet
    ∷ quiet (cancel (no "expires" ∷ []))
    -- it answers 0, with no header, text or audio, and numbers 11 to 14 aren't asked
    ∷ quiet (cancel (no "expires" ∷ event_in_place "" ∷ in_place "parameter" (parameter_element "EAS-ORG" "XXX" ++ parameter_element "EAS-Must-Carry" "True") ∷ area_in_place (geocode_element "1") ∷ []))
    -- numbers 4 to 10 are
    ∷ refused_line (cancel (no "expires" ∷ xml "description" "<description/><description/>" ∷ [])) "number 7 field 7"
    ∷ refused_line (brief (leaf_in_place "msgType" "Cancel" ∷ no "expires" ∷ [])) "number 10 field 0"
    -- any other Cancel is asked all
    ∷ told (cancel []) ""
    ∷ refused_line (cancel (event_in_place "" ∷ [])) "number 11 field 0"
    ∷ refused_line (cancel (area_in_place (geocode_element "1") ∷ [])) "number 13 field 0"
    ∷ refused_line (cancel (leaf_in_place "expires" "" ∷ [])) "number 14 field 0"
    -- and so is an Update
    ∷ refused_line (brief (leaf_in_place "msgType" "Update" ∷ in_place "references" earlier ∷ no "expires" ∷ [])) "number 14 field 0"
    ∷ []

-- ---- characters

-- ó and U+0141, whose low eight bits are `A`
abbrev pub acute_o : List ℕ
acute_o = 195 ∷ 179 ∷ []

abbrev pub crossed_l : List ℕ
crossed_l = 197 ∷ 129 ∷ []

-- a leaf of text, these bytes, and text
abbrev pub leaf_around : String → String → List ℕ → String → SamplePiece
leaf_around name before held after = in_place name (element name (bytes before ++ held ++ bytes after))

-- an element that is skipped, in which these bytes are text
abbrev pub skipped_with : List ℕ → List ℕ
skipped_with held = brief (in_place "language" (element "z" held) ∷ [])

-- before the root, a declaration with these bytes
abbrev pub declared_with : List ℕ → List ℕ
declared_with held = bytes "<?xml " ++ held ++ bytes "?>" ++ brief []

-- the message is UTF-8, with all characters legal in XML 1.0
unfoldable pub utf8_messages : List WorkedRow
utf8_messages =
    -- as bytes, and by reference
    told_bytes (alert_with (leaf_around "description" "Inundaci" acute_o "n." ∷ no "instruction" ∷ [])) (bytes " Message from County Bench. Inundaci" ++ acute_o ++ bytes "n.")
    ∷ told_bytes (alert_with (leaf_in_place "description" "Inundaci&#243;n." ∷ no "instruction" ∷ [])) (bytes " Message from County Bench. Inundaci" ++ acute_o ++ bytes "n.")
    -- of two, three and four bytes
    ∷ taken_line (skipped_with (127 ∷ 194 ∷ 128 ∷ 223 ∷ 191 ∷ []))
    ∷ taken_line (skipped_with (224 ∷ 160 ∷ 128 ∷ 237 ∷ 159 ∷ 191 ∷ 238 ∷ 128 ∷ 128 ∷ 239 ∷ 191 ∷ 189 ∷ []))
    ∷ taken_line (skipped_with (240 ∷ 144 ∷ 128 ∷ 128 ∷ 244 ∷ 143 ∷ 191 ∷ 191 ∷ []))
    -- also by reference, now of 1 to 7 digits
    ∷ taken_line (skipped_with (bytes "&#0000243;&#x00000f3;&#x10ffff;"))
    ∷ refused_line (skipped_with (bytes "&#00000243;")) "number 5 field 0"
    ∷ refused_line (skipped_with (bytes "&#xd800;")) "number 5 field 0"
    ∷ refused_line (skipped_with (bytes "&#xfffe;")) "number 5 field 0"
    ∷ refused_line (skipped_with (bytes "&#x110000;")) "number 5 field 0"
    -- in attribute values and comments; names stay ASCII
    ∷ taken_line (brief (in_place "language" (bytes "<z a='" ++ acute_o ++ bytes "'/><!--" ++ acute_o ++ bytes "-->") ∷ []))
    ∷ refused_line (brief (in_place "language" (bytes "<z" ++ acute_o ++ bytes "/>") ∷ [])) "number 5 field 0"
    -- malformed UTF-8 joins 5: a byte behind none, one too few, too long a form, a half of a pair, above U+10FFFF; U+FFFE is well-formed and not legal
    ∷ refused_line (skipped_with (128 ∷ [])) "number 5 field 0"
    ∷ refused_line (skipped_with (195 ∷ [])) "number 5 field 0"
    ∷ refused_line (skipped_with (192 ∷ 175 ∷ [])) "number 5 field 0"
    ∷ refused_line (skipped_with (237 ∷ 160 ∷ 128 ∷ [])) "number 5 field 0"
    ∷ refused_line (skipped_with (244 ∷ 144 ∷ 128 ∷ 128 ∷ [])) "number 5 field 0"
    ∷ refused_line (skipped_with (239 ∷ 191 ∷ 190 ∷ [])) "number 5 field 0"
    -- in the declaration anything well-formed goes
    ∷ taken_line (declared_with (0 ∷ 239 ∷ 191 ∷ 190 ∷ []))
    ∷ refused_line (declared_with (128 ∷ [])) "number 5 field 0"
    -- a byte order mark before the root
    ∷ refused_line (239 ∷ 187 ∷ 191 ∷ brief []) "number 5 field 0"
    ∷ []

-- a character outside a value's range gets that value's own number
unfoldable pub utf8_values : List WorkedRow
utf8_values =
    refused_line (brief (leaf_around "identifier" "B" acute_o "" ∷ [])) "number 7 field 1"
    ∷ refused_line (brief (leaf_around "sender" "b" crossed_l "c" ∷ [])) "number 7 field 2"
    ∷ refused_line (brief (leaf_around "sent" "2010-04-05" crossed_l "14:00:30-04:00" ∷ [])) "number 7 field 3"
    ∷ refused_line (brief (leaf_around "status" "" crossed_l "ctual" ∷ [])) "number 7 field 4"
    ∷ refused_line (update (element "references" (bytes "b@c,A" ++ acute_o ++ bytes ",2010-04-05T13:00:30-04:00"))) "number 10 field 0"
    ∷ refused_line (brief (in_place "eventCode" (element "eventCode" (leaf "valueName" "SAME" ++ element "value" (bytes "CE" ++ crossed_l))) ∷ [])) "number 11 field 0"
    ∷ refused_line (brief (in_place "parameter" (element "parameter" (leaf "valueName" "EAS-ORG" ++ element "value" (bytes "E" ++ crossed_l ++ bytes "S"))) ∷ [])) "number 12 field 0"
    ∷ refused_line (brief (area_in_place (element "geocode" (leaf "valueName" "SAME" ++ element "value" (bytes "02403" ++ acute_o))) ∷ [])) "number 13 field 0"
    ∷ refused_line (brief (leaf_around "expires" "2010-04-05" crossed_l "14:45:30-04:00" ∷ [])) "number 14 field 0"
    -- in a uri, one outside 32 to 126 makes its resource unsuitable
    ∷ heard (brief (in_place "resource" (element "resource" (leaf "mimeType" "audio/x-ipaws-audio-mp3" ++ element "uri" acute_o) ++ resource_element "audio/x-ipaws-audio-wav" "w") ∷ [])) "audio wav w"
    ∷ heard (brief (in_place "resource" (element "resource" (leaf "mimeType" "audio/x-ipaws-audio-mp3" ++ element "uri" (127 ∷ []))) ∷ [])) "audio none"
    -- white space stays 9, 10, 13, 32: U+00A0 is none
    ∷ told_bytes (brief (leaf_around "description" "" (194 ∷ 160 ∷ []) "" ∷ [])) (32 ∷ 194 ∷ 160 ∷ [])
    ∷ []

-- ---- the table

unfoldable pub table : List WorkedRow
table = messages ++ (numbers ++ (header_lines ++ (outputs ++ (cancels ++ (utf8_messages ++ utf8_values)))))
