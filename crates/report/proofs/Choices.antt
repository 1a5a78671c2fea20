-- Which words stand for a number, a value, an audio choice and an answer.
use Prim.Native.Nat.{ℕ, ◌≤◌, ◌<◌}
use mathlib.Core.Bool.{Bool}
use mathlib.Core.List.{List, ◌++◌, append-nil}
use mathlib.Core.Path.{◌≡◌}
use borrow.Author.Tests.{lt-ltb, le-ltb, eq-eqb, ne_eqb}
use lib.ListN.{length}
use Rattle.octets.specs.Digits.{digits}
use Rattle.octets.specs.Text.{bytes}
use Rattle.report.specs.Lines.{decimal, or_none, audio_words, number_line, alert_lines, lines_of}

pub decimal-one : (n : ℕ) → n < 10 → decimal n ≡ digits 1 n
unfolding decimal
decimal-one n h = rw (lt-ltb n 10 h)

pub decimal-two : (n : ℕ) → 10 ≤ n → decimal n ≡ digits 2 n
unfolding decimal
decimal-two n h = rw (le-ltb n 10 h)

pub or-none : (v : List ℕ) → length v ≡ 0 → or_none v ≡ bytes "none"
unfolding or_none
or-none v h = rw (eq-eqb (length v) 0 h)

pub or-itself : (v : List ℕ) → (length v ≡ 0 → ⊥) → or_none v ≡ v
unfolding or_none
or-itself v h = rw (ne_eqb (length v) 0 h)

pub audio-none : (audio : ℕ) (uri : List ℕ) → (audio ≡ 1 → ⊥) → (audio ≡ 2 → ⊥) → (audio ≡ 3 → ⊥) → audio_words audio uri ≡ bytes "none"
unfolding audio_words
audio-none audio uri h k l = rw (ne_eqb audio 1 h, ne_eqb audio 2 k, ne_eqb audio 3 l)

module _ (number field : ℕ) (header : List ℕ) (audio : ℕ) (uri : List ℕ) (carry : Bool) (text : List ℕ) where
  pub lines-alone : (number ≡ 0 → ⊥) → lines_of number field header audio uri carry text ≡ number_line number field
  unfolding lines_of
  lines-alone h = rw (ne_eqb number 0 h, append-nil)

  pub lines-all : number ≡ 0 → lines_of number field header audio uri carry text ≡ number_line number field ++ alert_lines header audio uri carry text
  unfolding lines_of
  lines-all h = rw (eq-eqb number 0 h)
