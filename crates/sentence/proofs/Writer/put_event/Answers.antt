-- The words of an event stand in the second table at the place that its code has in the first.
use Prim.Native.Nat.{ℕ}
use mathlib.Core.List.{List, [], ◌∷◌, ◌++◌}
use mathlib.Core.Path.{◌≡◌, refl, sym, ap, ◌∙◌}
use native.Mathlib.Omega.{arith}
use lib.ListN.{length, get_or}
use Rattle.std.specs.Prelude.{Option, Some}
use Rattle.octets.specs.Text.{bytes}
use Rattle.words.specs.WorkingWords.{words_of, which_of}
use Rattle.words.proofs.Choices.{answer, chosen, alike, place-within}
use Rattle.sentence.proofs.Lengths.{event-le}
use Rattle.sentence.proofs.Writers.{then, named}
use Rattle.sentence.specs.Words.{words_in, event_words}
use Rattle.sentence.proofs.Writer.put_event.Goals as goal

abbrev codes : List (List ℕ)
codes = words_of (3 ∷ 3 ∷ 3 ∷ 3 ∷ 3 ∷ 3 ∷ []) (bytes "EANRMTRWTCEMFFWTOR")

abbrev phrases : List (List ℕ)
phrases = words_of (29 ∷ 21 ∷ 20 ∷ 23 ∷ 19 ∷ 15 ∷ []) (bytes "Emergency Action NotificationRequired Monthly TestRequired Weekly TestCivil Emergency MessageFlash Flood WarningTornado Warning")

-- the words at a code's place; where it has none, what stands behind the sixth, which is `event EEE`
said : (e : List ℕ) {o : Option ℕ} → o ≡ which_of codes e → answer (bytes "event " ++ e) 6 phrases o ≡ event_words e
unfolding words_in bytes words_of
said e h = chosen (bytes "event " ++ e) codes phrases e h

word-said : (e : List ℕ) (k : ℕ) → Some k ≡ which_of codes e → get_or phrases k [] ≡ event_words e
unfolding words_of bytes
word-said e k h = alike (λ (i : ℕ). get_or phrases i []) (λ (i : ℕ). get_or phrases i (bytes "event " ++ e)) 6 refl k (place-within codes e h) ∙ said e h

pub put-requires : goal.put-requires
unfolding bytes
put-requires c =
    let e = c.args.e.now in
    omega (arith, ap length (c.word.ensures ∙ word-said e _ (sym c.in-Some.is ∙ c.which.ensures)), event-le e c.requires.e_len)

pub returns-in-Some : goal.returns-in-Some
unfolding bytes
returns-in-Some c = named c.put.ensures _ (sym (c.word.ensures ∙ word-said c.args.e.now _ (sym c.in-Some.is ∙ c.which.ensures)))

pub returns-in-None : goal.returns-in-None
unfolding bytes words_of
returns-in-None c = named (then c.put-in-None.ensures c.put-in-None-2.ensures) _ (sym (said c.args.e.now (sym c.in-None.is ∙ c.which.ensures)))
