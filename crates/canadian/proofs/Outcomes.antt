-- The outcome of the Canadian mode, by what was found: a message s, and outputs of t and u bytes.
--     short, refused, told      an output short; a number of the message; what it gives
--     no_words, some_words      of a message that passed 4 to 9, by how long its text is
use Prim.Native.Nat.{ℕ}
use mathlib.Core.Path.{◌≡◌, refl, sym, ◌∙◌}
use mathlib.Core.Bool.{true, false}
use mathlib.Core.List.{List}
use borrow.Author.Tests.{ne_eqb, eq-eqb}
use lib.ListN.{length}
use lib.Seq.{sets}
use Rattle.characters.specs.Utf8.{utf8}
use Rattle.message.specs.WorkingMessage.{message_says, info_in}
use Rattle.message.specs.declared.Message.{Message}
use Rattle.leaves.proofs.Fits.{audio-fits}
use Rattle.outputs.specs.Outputs.{text_answer_of}
use Rattle.outputs.specs.WorkingOutputs.{roomy_text, uri_in, UriFits, text_refused}
use Rattle.outputs.specs.declared.TextAudio.{TextAudio}
use Rattle.outputs.proofs.Answers.{Answers}
use Rattle.outputs.proofs.Fits.{uri-fits}
use Rattle.canadian.specs.WorkingCanadian.{text_given, broadcast_in, description_in, instruction_in, canadian_given, words_given, canadian_by, canadian_of}
use Rattle.canadian.proofs.Texts.{Puts, long-some, long-none}

module _ (s : List ℕ) (t u : ℕ) where
  pub short : roomy_text t u ≡ false → canadian_of s t u ≡ text_refused 2 0
  unfolding canadian_of
  short e = rw e

  module _ (room : roomy_text t u ≡ true) (m : Message) (says : m ≡ message_says s) where
    outcome : canadian_of s t u ≡ canadian_by s m
    unfolding canadian_of
    outcome = rw (room, says)

    pub refused : (m.number ≡ 0 → ⊥) → canadian_of s t u ≡ text_refused m.number m.field
    unfolding canadian_by
    refused e = outcome ∙ rw (ne_eqb m.number 0 e)

    pub told : m.number ≡ 0 → canadian_of s t u ≡ words_given s m
    unfolding canadian_by
    told e = outcome ∙ rw (eq-eqb m.number 0 e)

    -- the uri that it gives fits
    pub fits : UriFits (uri_in s (info_in m).audio)
    fits = rw says (uri-fits s (info_in (message_says s)).audio (audio-fits s))

-- ---- what is written

module _ (s : List ℕ) (m : Message) (text : List ℕ) {x : List ℕ} {n : ℕ}
    (put : Puts text (text_given (broadcast_in s m) (description_in s m) (instruction_in s m)) x n) where
  -- the text is empty, and 18 is answered
  pub no_words : {r : TextAudio} {uri : List ℕ} → n ≡ 0 → r ≡ text_answer_of (text_refused 18 m.field) → Answers (words_given s m) r text uri x uri
  unfolding words_given text_given utf8
  no_words h answer =
      let e = long-none (broadcast_in s m) (description_in s m) (instruction_in s m) (sym put.0 ∙ h) in
      rw e (answer, (rw e at put.1, refl))

  pub some_words : (uri : List ℕ) {y : List ℕ} {k : ℕ} → (n ≡ 0 → ⊥) → (k ≡ length (uri_in s (info_in m).audio)) × (y ≡ sets uri 0 (uri_in s (info_in m).audio))
      → Answers (words_given s m) (record { number = 0; field = m.field; audio = (info_in m).audio.number; uri = k; text = n }) text uri x y
  unfolding words_given text_given canadian_given text_answer_of
  some_words uri h linked =
      let e = long-some (broadcast_in s m) (description_in s m) (instruction_in s m) (λ z. h (put.0 ∙ z)) in
      rw e (rw (linked.0, rw e at put.0), (rw e at put.1, linked.1))
