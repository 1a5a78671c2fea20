-- The outputs of text and audio, as the code asks them and fills them.
use Rattle.std.specs.Prelude.{ℕ, ◌≤◌, ◌≡◌, Bool, true, List, [], ◌∷◌, eqb, leb, length}
use Rattle.octets.specs.Bytes.{pick, every, holds}
use Rattle.values.specs.Value.{value_at}
use Rattle.values.specs.WorkingSteps.{is_printable}
use Rattle.reads.specs.declared.Audio.{Audio}
use Rattle.outputs.specs.Outputs.{no_text, TextOutcome, alone}

-- lent output short: text 7,200, uri 1,024
unfoldable pub roomy_text : ℕ → ℕ → Bool
roomy_text text uri = every holds (leb 7200 text ∷ leb 1024 uri ∷ [])

-- the uri of the audio choice; none without audio
unfoldable pub uri_in : List ℕ → Audio → List ℕ
uri_in s a = pick (eqb a.number 0) [] (value_at s a.uri)

-- at most 1,024 characters of 32 to 126, which are a byte each
pub record UriFits (v : List ℕ) : Type 0 where
  pub short : length v ≤ 1024
  pub printable : every is_printable v ≡ true

-- a refusal returns its number, and its field after 7, zeros elsewhere, and touches nothing lent
abbrev pub text_refused : ℕ → ℕ → TextOutcome
text_refused = alone no_text
