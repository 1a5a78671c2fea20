-- Whole messages and what the Canadian mode answers for each, with outputs of 7,200 and 1,024 bytes, as a single table under a single statement:
-- `AllCanadian canadian_table`. The comments are the sentences of ticket 1 in document 02, or those of document 01 that stand there too.
use Rattle.std.specs.Prelude.{ℕ, ◌≡◌, List, [], ◌∷◌, ◌++◌}
use Prim.Native.String.{String}
use Rattle.octets.specs.Text.{bytes}
use Rattle.outputs.specs.Outputs.{TextOutcome}
use Rattle.canadian.specs.WorkingCanadian.{canadian_of}
use Rattle.worked.specs.Table.{SamplePiece, element, leaf, parameter_element, geocode_element, resource_element, in_place, leaf_in_place, xml, no, event_in_place, area_in_place, alert_with, sample, earlier}

-- ---- messages

-- what the sample has and this mode does not ask for
abbrev pub unasked : List SamplePiece
unasked = no "eventCode" ∷ no "expires" ∷ no "senderName" ∷ no "area" ∷ []

-- the sample without it, with these changes: `Water main broken.` and `Boil water.`
abbrev pub spoken : List SamplePiece → List ℕ
spoken cs = alert_with (cs ++ unasked)

-- with these parameters, or canadian_resources
abbrev pub with_parameters : List ℕ → List ℕ
with_parameters parameters = spoken (in_place "parameter" parameters ∷ [])

abbrev pub with_resources : List ℕ → List ℕ
with_resources canadian_resources = spoken (in_place "resource" canadian_resources ∷ [])

abbrev pub broadcast_element : String → List ℕ
broadcast_element value = parameter_element "layer:AEA:2.0:broadcastText" value

-- an info of this language and this description
abbrev pub info_of_language : String → String → List ℕ
info_of_language language description = element "info" (leaf "language" language ++ leaf "description" description)

-- ---- rows

-- a message, and what is answered and written: the uri and the text
pub record CanadianRow : Type 0 where
  pub message : List ℕ
  pub number : ℕ
  pub field : ℕ
  pub audio : ℕ
  pub uri : String
  pub text : String

-- a refusal returns its number, zeros elsewhere
abbrev pub refused_in_canada : List ℕ → ℕ → ℕ → CanadianRow
refused_in_canada m number field = record { message = m; number = number; field = field; audio = 0; uri = ""; text = "" }

-- a message of this text, with audio, or with none
abbrev pub heard_as : List ℕ → ℕ → String → String → CanadianRow
heard_as m audio uri text = record { message = m; number = 0; field = 0; audio = audio; uri = uri; text = text }

abbrev pub texted : List ℕ → String → CanadianRow
texted m text = heard_as m 0 "" text

abbrev pub canadian_row_outcome : CanadianRow → TextOutcome
canadian_row_outcome r = record {
  number = r.number;
  field = r.field;
  given = record { text = bytes r.text; audio = r.audio; uri = bytes r.uri };
}

unfoldable pub CanadianHolds : CanadianRow → Type 0
CanadianHolds r = canadian_of r.message 7200 1024 ≡ canadian_row_outcome r

-- the statement
unfoldable pub AllCanadian : List CanadianRow → Type 0
AllCanadian [] = Unit {0}
AllCanadian (r ∷ rs) = CanadianHolds r × AllCanadian rs

-- ---- the text

unfoldable pub broadcasts : List CanadianRow
broadcasts =
    -- the value of a parameter named `layer:AEA:2.0:broadcastText` as the whole text
    texted (with_parameters (broadcast_element "T.")) "T."
    -- name in any letter case
    ∷ texted (with_parameters (parameter_element " LAYER:aea:2.0:BROADCASTtext " "T.")) "T."
    -- and no other name
    ∷ texted (with_parameters (parameter_element "layer:AEA:2.0:broadcastTexts" "T." ++ parameter_element "layer:AEA:2.0:broadcastTex" "T."))
    "Water main broken. Boil water."
    -- the value is its decoded text, white space collapsed
    ∷ texted (with_parameters (broadcast_element " Boil  <!-- -->&#119;ater ")) "Boil water"
    -- the first
    ∷ texted (with_parameters (broadcast_element "T." ++ broadcast_element "Told.")) "T."
    -- non-empty value, in whatever letter case each is named
    ∷ texted (with_parameters (broadcast_element "" ++ broadcast_element " " ++ parameter_element "layer:aea:2.0:broadcasttext" "T." ++ broadcast_element "Told.")) "T."
    -- otherwise description, then instruction after a space
    ∷ texted (with_parameters (broadcast_element "")) "Water main broken. Boil water."
    -- EASText is not read for the text
    ∷ texted (with_parameters (parameter_element "EASText" "E.")) "Water main broken. Boil water."
    ∷ []

unfoldable pub descriptions : List CanadianRow
descriptions =
    -- there is no sentence and no sender phrase
    texted sample "Water main broken. Boil water."
    -- instruction if there is one
    ∷ texted (spoken (no "instruction" ∷ [])) "Water main broken."
    ∷ texted (spoken (leaf_in_place "instruction" "" ∷ [])) "Water main broken."
    -- of the info that document 01 selects: the first whose language is absent, empty or en-US; if none, the first
    ∷ texted (spoken (in_place "info" (info_of_language "fr-CA" "Premier." ++ info_of_language "en-CA" "First.") ∷ [])) "Premier."
    ∷ texted (spoken (in_place "info" (info_of_language "fr-CA" "Premier." ++ info_of_language "en-US" "First.") ∷ [])) "First."
    -- 18, neither such a value
    ∷ texted (spoken (no "description" ∷ in_place "parameter" (broadcast_element "T.") ∷ [])) "T."
    -- nor a non-empty description, whatever the instruction says
    ∷ refused_in_canada (spoken (no "description" ∷ [])) 18 0
    ∷ refused_in_canada (spoken (leaf_in_place "description" "" ∷ no "instruction" ∷ in_place "parameter" (broadcast_element "") ∷ [])) 18 0
    -- and a refusal gives no audio
    ∷ refused_in_canada (spoken (no "description" ∷ in_place "resource" (resource_element "audio/x-ipaws-audio-mp3" "m") ∷ [])) 18 0
    -- without info there is neither
    ∷ refused_in_canada (spoken (no "info" ∷ [])) 18 0
    ∷ []

-- ---- numbers, audio

unfoldable pub asked : List CanadianRow
asked =
    -- no Cancel is quiet
    refused_in_canada (spoken (leaf_in_place "msgType" "Cancel" ∷ in_place "references" earlier ∷ no "info" ∷ [])) 18 0
    ∷ texted (spoken (leaf_in_place "msgType" "Cancel" ∷ in_place "references" earlier ∷ [])) "Water main broken. Boil water."
    -- 10 is skipped, references missing
    ∷ texted (spoken (leaf_in_place "msgType" "Update" ∷ [])) "Water main broken. Boil water."
    -- or with a child element
    ∷ texted (spoken (leaf_in_place "msgType" "Update" ∷ xml "references" "<references><x/></references>" ∷ [])) "Water main broken. Boil water."
    -- and 11 to 14
    ∷ texted (alert_with (event_in_place "CEm" ∷ leaf_in_place "expires" "2010" ∷ in_place "parameter" (parameter_element "EAS-ORG" "XXX") ∷ area_in_place (geocode_element "1") ∷ []))
    "Water main broken. Boil water."
    -- 4 to 9 are asked
    ∷ refused_in_canada (bytes "") 4 0
    ∷ refused_in_canada (bytes "<a><b></a>") 5 0
    ∷ refused_in_canada (bytes "<alert xmlns='urn:oasis:names:tc:emergency:cap:1.1'/>") 6 0
    -- 7: the field is the lowest of 1 to 6 at fault
    ∷ refused_in_canada (spoken (leaf_in_place "identifier" "B,1" ∷ [])) 7 1
    -- else 7, of every leaf that is read there
    ∷ refused_in_canada (spoken (xml "eventCode" "<eventCode><valueName>SAME</valueName></eventCode>" ∷ [])) 7 7
    ∷ refused_in_canada (spoken (xml "expires" "<expires/><expires/>" ∷ [])) 7 7
    -- 18 is asked after 8 and 9
    ∷ refused_in_canada (spoken (leaf_in_place "status" "Test" ∷ no "description" ∷ [])) 8 0
    ∷ refused_in_canada (spoken (leaf_in_place "msgType" "Ack" ∷ no "description" ∷ [])) 9 0
    ∷ []

unfoldable pub canadian_resources : List CanadianRow
canadian_resources =
    -- a resource counts there as in the American mode: the first of these, with a uri
    heard_as (with_resources (resource_element "audio/x-ipaws-audio-mp3" "" ++ resource_element "audio/x-ipaws-audio-mp3" "http://b/a")) 1 "http://b/a" "Water main broken. Boil water."
    ∷ heard_as (with_resources (resource_element "audio/x-ipaws-audio-wav" "w" ++ resource_element "audio/x-ipaws-audio-mp3" "m")) 2 "w" "Water main broken. Boil water."
    ∷ heard_as (with_resources (resource_element "audio/x-ipaws-streaming-audio-mp3" "s")) 3 "s" "Water main broken. Boil water."
    -- the audio of source document 001 does not
    ∷ texted (with_resources (element "resource" (leaf "resourceDesc" "Broadcast Audio" ++ leaf "mimeType" "audio/mpeg" ++ leaf "uri" "u"))) "Water main broken. Boil water."
    ∷ []

-- ---- the table

unfoldable pub canadian_table : List CanadianRow
canadian_table = broadcasts ++ (descriptions ++ (asked ++ canadian_resources))
