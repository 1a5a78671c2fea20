-- The conversion's two calls, each as one definition, by which the code is specified: everything that it answers and writes for a message, a station and outputs of
-- given lengths.
use Rattle.std.specs.Prelude.{ℕ, Bool, ◌&&◌, not, List, eqb, leb, length}
use Rattle.octets.specs.Bytes.{pick}
use Rattle.octets.specs.Text.{bytes}
use Rattle.characters.specs.Utf8.{utf8}
use Rattle.values.specs.Value.{value_at}
use Rattle.parts.specs.Parts.{station_ok}
use Rattle.parts.specs.declared.Body.{Body}
use Rattle.header.specs.Header.{header_bytes}
use Rattle.reads.specs.WorkingLeaves.{eas_text_leaf, must_carry_leaf, sender_name_leaf, description_leaf, instruction_leaf}
use Rattle.reads.specs.WorkingSteps.{says}
use Rattle.reads.specs.declared.Info.{Info}
use Rattle.sentence.specs.Words.{sentence_of}
use Rattle.wording.specs.Text.{text_of}
use Rattle.message.specs.WorkingMessage.{info_in}
use Rattle.judgement.specs.WorkingJudged.{refused_before, judged_of}
use Rattle.judgement.specs.declared.Judged.{Judged}
use Rattle.outputs.specs.Outputs.{Outcome, alone, TextGiven, no_text, TextOutcome}
use Rattle.outputs.specs.WorkingOutputs.{roomy_text, uri_in}
use Rattle.convert.specs.Convert.{HeaderGiven, no_header, HeaderOutcome}

-- ---- what an alert gives: a message that answers 0 and is not quiet

-- the header of the parts, for this station
abbrev pub station_header : List ℕ → Body → List ℕ
station_header station b = header_bytes (record { body = b; station = station })

-- must-carry: the first EAS-Must-Carry parameter is `True`
abbrev pub carry_in : List ℕ → Info → Bool
carry_in s i = says s (must_carry_leaf i).at (bytes "True")

unfoldable pub header_by : List ℕ → List ℕ → Judged → HeaderGiven
header_by s station j = record { header = station_header station j.body; carry = carry_in s (info_in j.message) }

-- the sentence of the header's parts, the first EASText, senderName, description, instruction
unfoldable pub text_in : List ℕ → Judged → List ℕ
text_in s j =
    let i = info_in j.message in
    text_of (sentence_of j.body) (value_at s (eas_text_leaf i).at) (value_at s (sender_name_leaf i).at) (value_at s (description_leaf i).at) (value_at s (instruction_leaf i).at)

-- the text in UTF-8
unfoldable pub text_by : List ℕ → Judged → TextGiven
text_by s j = record {
  text = utf8 (text_in s j);
  audio = (info_in j.message).audio.number;
  uri = uri_in s (info_in j.message).audio;
}

-- ---- the calls: each asks 2 to 14

-- both take the station: 3, then the message
unfoldable pub judged_for : List ℕ → List ℕ → Judged
judged_for s station = pick (station_ok station) (judged_of s) (refused_before (length s) 3)

-- after 0 a message that is not quiet gives what it has for the call
unfoldable pub outcome_of : {A : Type 0} → A → (Judged → A) → Judged → Outcome A
outcome_of none given j = record {
  number = j.number;
  field = j.field;
  given = pick (eqb j.number 0 && not j.quiet) (given j) none;
}

-- 2 asks in each only what that call writes; a refusal returns its number, zeros elsewhere, and touches nothing lent
unfoldable pub call_of : {A : Type 0} → A → (Judged → A) → Bool → List ℕ → List ℕ → Outcome A
call_of none given roomy s station = pick roomy (outcome_of none given (judged_for s station)) (alone none 2 0)

-- one call for header and must-carry: header 252
unfoldable pub header_call : List ℕ → List ℕ → ℕ → HeaderOutcome
header_call s station header = call_of no_header (header_by s station) (leb 252 header) s station

-- one for text and audio: text 7,200, uri 1,024
unfoldable pub text_call : List ℕ → List ℕ → ℕ → ℕ → TextOutcome
text_call s station text uri = call_of no_text (text_by s) (roomy_text text uri) s station
