-- What a call answers that gives text and audio.
--     Answers, untouched          an answer and both outputs at exit, as the outcome has them; where nothing is given each output is as it was
--     SmallText, alone-small      every part of it fits a few bits
use Prim.Native.Nat.{ℕ, ◌≤◌}
use mathlib.Core.Path.{◌≡◌, sym, ap, ◌∙◌}
use mathlib.Core.List.{List}
use native.Mathlib.Omega.{arith}
use lib.Seq.{sets}
use Rattle.outputs.specs.Outputs.{TextOutcome, text_answer_of}
use Rattle.outputs.specs.WorkingOutputs.{text_refused}
use Rattle.outputs.specs.declared.TextAudio.{TextAudio}

abbrev pub Answers : TextOutcome → TextAudio → List ℕ → List ℕ → List ℕ → List ℕ → Type 0
Answers o r text uri x y = (r ≡ text_answer_of o) × ((x ≡ sets text 0 o.given.text) × (y ≡ sets uri 0 o.given.uri))

pub untouched : (o : TextOutcome) (r : TextAudio) (text uri : List ℕ) (n f : ℕ) → o ≡ text_refused n f → r ≡ text_answer_of (text_refused n f) → Answers o r text uri text uri
untouched o r text uri n f e h = (h ∙ ap text_answer_of (sym e), (rw e, rw e))

pub record SmallText (r : TextAudio) : Type 0 where
  pub number : r.number ≤ 18
  pub field : r.field ≤ 7
  pub audio : r.audio ≤ 3
  pub uri : r.uri ≤ 1024
  pub text : r.text ≤ 7200

pub alone-small : (n f : ℕ) → n ≤ 18 → f ≤ 7 → SmallText (text_answer_of (text_refused n f))
unfolding text_answer_of
alone-small n f a b = record { number = a; field = b; audio = omega arith; uri = omega arith; text = omega arith }
