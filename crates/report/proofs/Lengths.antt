-- How long the lines are.
--     lines-le     at most 8,600 bytes
use Prim.Native.Nat.{ℕ, ◌+◌, ◌≤◌}
use mathlib.Core.Bool.{Bool, true, false}
use mathlib.Core.List.{List, []}
use native.Mathlib.Omega.{arith}
use lib.Dec.{eqb, ltb, lit≤}
use lib.ListN.{length, length-append}
use Rattle.octets.proofs.Numbers.{length_digits}
use Rattle.octets.specs.Digits.{digits}
use Rattle.octets.specs.Text.{bytes}
use Rattle.octets.proofs.Tests.{either_way}
use Rattle.report.specs.Lines.{decimal, line, or_none, kind_then_uri, audio_words, number_line, value_line, audio_line, carry_line, alert_lines, lines_of}

abbrev pub AtMost : ℕ → List ℕ → Type 0
AtMost n l = length l ≤ n

decimal-le : (n : ℕ) → length (decimal n) ≤ 2
unfolding decimal
decimal-le n = either_way (AtMost 2) (ltb n 10) (digits 1 n) (digits 2 n) (λ e. omega (arith, length_digits 1 n)) (λ e. omega (arith, length_digits 2 n))

number-le : (number field : ℕ) → length (number_line number field) ≤ 19
unfolding number_line line bytes
number-le number field = simp length-append (omega (arith, decimal-le number, decimal-le field))

value-le : (name v : List ℕ) (n : ℕ) → 4 ≤ n → length v ≤ n → length (value_line name v) ≤ length name + n + 1
unfolding value_line line or_none bytes
value-le name v n k h = simp length-append (omega (arith, either_way (AtMost n) (eqb (length v) 0) (bytes "none") v (λ e. k) (λ e. h)))

spaced-le : (kind uri : List ℕ) (n : ℕ) → length kind ≤ 6 → length uri ≤ n → length (kind_then_uri kind uri) ≤ n + 7
unfolding kind_then_uri bytes
spaced-le kind uri n k h = simp length-append (omega arith)

audio-words-le : (audio : ℕ) (uri : List ℕ) (n : ℕ) → length uri ≤ n → length (audio_words audio uri) ≤ n + 7
unfolding audio_words bytes
audio-words-le audio uri n h =
    either_way (AtMost (n + 7)) (eqb audio 1) _ _ (λ e. spaced-le (bytes "mp3") uri n (lit≤ tt) h)
    (λ e. either_way (AtMost (n + 7)) (eqb audio 2) _ _ (λ e. spaced-le (bytes "wav") uri n (lit≤ tt) h)
    (λ e. either_way (AtMost (n + 7)) (eqb audio 3) _ _ (λ e. spaced-le (bytes "stream") uri n (lit≤ tt) h) (λ e. omega arith)))

audio-le : (audio : ℕ) (uri : List ℕ) (n : ℕ) → length uri ≤ n → length (audio_line audio uri) ≤ n + 14
unfolding audio_line line bytes
audio-le audio uri n h = simp length-append (omega (arith, audio-words-le audio uri n h))

carry-le : (carry : Bool) → length (carry_line carry) ≤ 10
unfolding carry_line line bytes
carry-le true = lit≤ tt
carry-le false = lit≤ tt

alert-le : (header : List ℕ) (audio : ℕ) (uri : List ℕ) (carry : Bool) (text : List ℕ) → length header ≤ 252 → length uri ≤ 1024 → length text ≤ 7200 → length (alert_lines header audio uri carry text) ≤ 8514
unfolding alert_lines bytes
alert-le header audio uri carry text h u t = simp length-append (omega (arith, value-le (bytes "header ") header 252 (lit≤ tt) h, audio-le audio uri 1024 u, carry-le carry, value-le (bytes "text ") text 7200 (lit≤ tt) t))

pub lines-le : (number field : ℕ) (header : List ℕ) (audio : ℕ) (uri : List ℕ) (carry : Bool) (text : List ℕ) → length header ≤ 252 → length uri ≤ 1024 → length text ≤ 7200 → length (lines_of number field header audio uri carry text) ≤ 8600
unfolding lines_of
lines-le number field header audio uri carry text h u t =
    simp length-append (omega (arith, number-le number field, either_way (AtMost 8514) (eqb number 0) (alert_lines header audio uri carry text) [] (λ e. alert-le header audio uri carry text h u t) (λ e. lit≤ tt)))
