-- The value's place among the three names, counted from 1.
use Prim.Native.Nat.{ℕ, ◌+◌, ◌<◌}
use mathlib.Core.Path.{◌≡◌, refl, sym, ◌∙◌}
use mathlib.Core.List.{List, [], ◌∷◌, map}
use lib.ListN.{get_or}
use Rattle.std.specs.Prelude.{Option, Some, None}
use Rattle.std.specs.Option.{MatchOption}
use borrow.Author.Rules.{rules}
use Rattle.octets.specs.Text.{bytes}
use Rattle.values.specs.Value.{value_at}
use Rattle.words.specs.WorkingWords.{words_of, which_of}
use Rattle.words.proofs.Choices.{answer, chosen, alike, place-within}
use Rattle.reads.specs.WorkingSteps.{audio_of}
use Rattle.reads.proofs.audio_of.Goals as goal

abbrev names : List (List ℕ)
names = map bytes ("audio/x-ipaws-audio-mp3" ∷ "audio/x-ipaws-audio-wav" ∷ "audio/x-ipaws-streaming-audio-mp3" ∷ [])

abbrev numbers : List ℕ
numbers = 1 ∷ 2 ∷ 3 ∷ []

told : (s : List ℕ) (at : ℕ) {o : Option ℕ} → o ≡ which_of names (value_at s at) → answer 0 3 numbers o ≡ audio_of s at
unfolding audio_of
told s at h = chosen 0 names numbers (value_at s at) h

within : (s : List ℕ) (at k : ℕ) → Some k ≡ which_of names (value_at s at) → k < 3
within s at k h = place-within names (value_at s at) h

numbered : (s : List ℕ) (at : ℕ) (o : Option ℕ) (r : ℕ) → MatchOption o (r ≡ 0) (λ k. r ≡ k + 1) → o ≡ which_of names (value_at s at) → r ≡ audio_of s at
numbered s at None r h e = h ∙ told s at e
numbered s at (Some k) r h e = h ∙ alike (λ (k : ℕ). k + 1) (λ (k : ℕ). get_or numbers k 0) 3 refl k (within s at k e) ∙ told s at e

pub map_or-requires : goal.map_or-requires
unfolding bytes words_of
map_or-requires c = λ k e. let l = within c.args.s.now c.args.at k (sym e ∙ c.which_value.ensures) in search rules

pub returns : goal.returns
unfolding bytes words_of
returns c = numbered c.args.s.now c.args.at c.which_value.result c.map_or.result (search rules) c.which_value.ensures
