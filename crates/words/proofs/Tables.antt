-- A table read word by word: the words of the lengths from place k on, which stand in what is left of the text.
--     words-over, words-cut, words-next     none left; a length that goes beyond the end; a word, and those behind it
--     length-here                           that word's length
use mathlib.Core.Path.{◌≡◌, refl, ap, ◌∙◌}
use mathlib.Core.List.{List, [], ◌∷◌}
use Prim.Native.Nat.{ℕ, ◌+◌, ◌≤◌, ◌<◌}
use borrow.Author.Tests.{le-leb, lt-leb}
use lib.ListN.{length, take, drop, get_or, drop_of_length-le}
use Rattle.std.specs.List.{IsSplitAt}
use Rattle.octets.proofs.Parts.{tail_step}
use Rattle.octets.proofs.Tests.{picked, passed_over}
use Rattle.words.specs.WorkingWords.{words_of}

words-none : (t : List ℕ) → words_of [] t ≡ []
unfolding words_of
words-none t = refl

words_step : (n : ℕ) (ns t : List ℕ) → n ≤ length t → words_of (n ∷ ns) t ≡ take n t ∷ words_of ns (drop n t)
unfolding words_of
words_step n ns t h = picked _ _ _ (le-leb n (length t) h)

words-stop : (n : ℕ) (ns t : List ℕ) → length t < n → words_of (n ∷ ns) t ≡ []
unfolding words_of
words-stop n ns t h = passed_over _ _ _ (lt-leb n (length t) h)

module _ (lens t : List ℕ) (k : ℕ) where
  abbrev pub left : List (List ℕ)
  left = words_of (drop k lens) t

  pub words-over : length lens ≤ k → left ≡ []
  words-over h = ap (λ (ns : List ℕ). words_of ns t) (drop_of_length-le lens h) ∙ words-none t

  -- the length at place k is n
  module _ (n : ℕ) (h : k < length lens) (e : n ≡ get_or lens k 0) where
    first : left ≡ words_of (n ∷ drop (k + 1) lens) t
    first = rw e (ap (λ (ns : List ℕ). words_of ns t) (tail_step lens k h))

    pub words-cut : length t < n → left ≡ []
    words-cut s = first ∙ words-stop n (drop (k + 1) lens) t s

    pub words-next : (x u : List ℕ) → IsSplitAt t n x u → left ≡ x ∷ words_of (drop (k + 1) lens) u
    words-next x u s = rw (s.1, s.2) (first ∙ words_step n (drop (k + 1) lens) t s.0)

    pub length-here : (x u : List ℕ) → IsSplitAt t n x u → length x ≡ get_or lens k 0
    length-here x u s = s.3 ∙ e
