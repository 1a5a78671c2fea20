-- The Canadian mode as one definition, by which the code is specified: everything that it answers and writes for a message and outputs of given lengths.
use Rattle.std.specs.Prelude.{ℕ, Bool, ◌&&◌, List, [], eqb}
use Rattle.octets.specs.Bytes.{pick}
use Rattle.characters.specs.Utf8.{utf8}
use Rattle.values.specs.Value.{value_at}
use Rattle.reads.specs.WorkingLeaves.{description_leaf, instruction_leaf, broadcast_leaf}
use Rattle.message.specs.WorkingMessage.{message_says, info_in}
use Rattle.message.specs.declared.Message.{Message}
use Rattle.wording.specs.Text.{empty}
use Rattle.outputs.specs.Outputs.{TextGiven, TextOutcome}
use Rattle.outputs.specs.WorkingOutputs.{roomy_text, uri_in, text_refused}
use Rattle.canadian.specs.Canadian.{canadian_text}

-- neither a broadcast text nor a description
abbrev pub lacks_words : List ℕ → List ℕ → Bool
lacks_words broadcast description = empty broadcast && empty description

-- the text; nothing where there is neither
unfoldable pub text_given : List ℕ → List ℕ → List ℕ → List ℕ
text_given broadcast description instruction = pick (lacks_words broadcast description) [] (canadian_text broadcast description instruction)

-- what the selected info says
abbrev pub broadcast_in : List ℕ → Message → List ℕ
broadcast_in s m = value_at s (broadcast_leaf (info_in m)).at

abbrev pub description_in : List ℕ → Message → List ℕ
description_in s m = value_at s (description_leaf (info_in m)).at

abbrev pub instruction_in : List ℕ → Message → List ℕ
instruction_in s m = value_at s (instruction_leaf (info_in m)).at

-- text, in UTF-8, and audio of a message that is refused by none
unfoldable pub canadian_given : List ℕ → Message → TextGiven
canadian_given s m = record {
  text = utf8 (canadian_text (broadcast_in s m) (description_in s m) (instruction_in s m));
  audio = (info_in m).audio.number;
  uri = uri_in s (info_in m).audio;
}

-- 18, neither such a value nor a non-empty description
unfoldable pub words_given : List ℕ → Message → TextOutcome
words_given s m =
    pick (lacks_words (broadcast_in s m) (description_in s m))
    (text_refused 18 m.field)
    (record { number = 0; field = m.field; given = canadian_given s m })

-- 4 to 9, and 18 after them
unfoldable pub canadian_by : List ℕ → Message → TextOutcome
canadian_by s m = pick (eqb m.number 0) (words_given s m) (text_refused m.number m.field)

-- 2 an output short, before all of these
unfoldable pub canadian_of : List ℕ → ℕ → ℕ → TextOutcome
canadian_of s text uri = pick (roomy_text text uri) (canadian_by s (message_says s)) (text_refused 2 0)
