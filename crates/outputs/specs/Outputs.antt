-- Everything that a call answers and writes that gives something of a message; and of one that gives text and audio.
use Rattle.std.specs.Prelude.{ℕ, List, [], length}
use Rattle.outputs.specs.declared.TextAudio.{TextAudio}

-- ---- any such call

-- the number, the field, and what is written from the start of each output; bytes past it stay, so that where nothing is written nothing is touched
pub record Outcome (A : Type 0) : Type 0 where
  pub number : ℕ
  pub field : ℕ
  pub given : A

-- an answer with nothing given
abbrev pub alone : {A : Type 0} → A → ℕ → ℕ → Outcome A
alone none number field = record { number = number; field = field; given = none }

-- ---- text and audio

-- the text, the audio number and the uri
pub record TextGiven : Type 0 where
  pub text : List ℕ
  pub audio : ℕ
  pub uri : List ℕ

-- no text or audio
abbrev pub no_text : TextGiven
no_text = record { text = []; audio = 0; uri = [] }

abbrev pub TextOutcome : Type 0
TextOutcome = Outcome TextGiven

-- what the call returns: lengths in place of bytes
unfoldable pub text_answer_of : TextOutcome → TextAudio
text_answer_of o = record {
  number = o.number;
  field = o.field;
  audio = o.given.audio;
  uri = length o.given.uri;
  text = length o.given.text;
}
