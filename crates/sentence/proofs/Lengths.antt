-- How long the sentence and its pieces are.
--     sentence-le     at most 389 characters
use Prim.Native.Nat.{ℕ, ◌+◌, ◌*◌, ◌≤◌, min}
use mathlib.Core.Bool.{Bool, true}
use mathlib.Core.List.{List, [], ◌∷◌}
use mathlib.Core.Path.{◌≡◌, refl}
use native.Mathlib.Omega.{arith}
use lib.Dec.{lit≤, leb}
use lib.ListN.{length, take, length-append, length-take}
use borrow.Author.Tests.{leb-true}
use Rattle.octets.proofs.Numbers.{length_digits}
use Rattle.octets.proofs.Tests.{every_first, every_rest, either_way}
use Rattle.octets.specs.Bytes.{every, same}
use Rattle.octets.specs.Text.{bytes}
use Rattle.parts.specs.declared.Body.{Body}
use Rattle.parts.specs.declared.Originator.{Originator}
use Rattle.parts.specs.declared.Originator.TheVariants.{Pep, Eas, Wxr, Civ}
use Rattle.sentence.specs.Words.{EventWords, org_words, event_table, words_in, event_words, location_word, others, location_words, who_words, when_words, sentence_of}

pub org-le : (o : Originator) → length (org_words o) ≤ 33
unfolding org_words bytes
org-le Pep = lit≤ tt
org-le Eas = lit≤ tt
org-le Wxr = lit≤ tt
org-le Civ = lit≤ tt

-- an event's words have at most n characters
abbrev short : ℕ → EventWords → Bool
short n r = leb (length r.words) n

words-le : (rs : List EventWords) (e : List ℕ) (n : ℕ) → every (short n) rs ≡ true → 6 + length e ≤ n → length (words_in rs e) ≤ n
unfolding words_in bytes
words-le [] e n t h = omega arith
words-le (r ∷ rs) e n t h =
    either_way (λ (l : List ℕ). length l ≤ n) (same e r.code) r.words (words_in rs e)
    (λ _. leb-true (length r.words) n (every_first (short n) r rs t)) (λ _. words-le rs e n (every_rest (short n) r rs t) h)

pub event-le : (e : List ℕ) → length e ≡ 3 → length (event_words e) ≤ 29
unfolding bytes every
event-le e h = words-le event_table e 29 refl (omega arith)

location-le : (v : ℕ) → length (location_word v) ≤ 6
unfolding location_word
location-le v = omega (arith, length_digits 6 v)

others-le : (vs : List ℕ) → length (others vs) ≤ 8 * length vs
unfolding others bytes
others-le [] = omega arith
others-le (v ∷ vs) = omega (arith, length-append (location_word v) (others vs), location-le v, others-le vs)

pub joined-le : (vs : List ℕ) → length vs ≤ 31 → length (location_words vs) ≤ 246
unfolding location_words
joined-le [] h = lit≤ tt
joined-le (v ∷ vs) h = omega (arith, length-append (location_word v) (others vs), location-le v, others-le vs)

pub who-le : (o : Originator) (e : List ℕ) → length e ≡ 3 → length (who_words o e) ≤ 85
unfolding who_words bytes
who-le o e h = simp length-append (omega (arith, org-le o, event-le e h))

length-when : (period day hour minute : ℕ) → length (when_words period day hour minute) ≡ 58
unfolding when_words bytes
length-when period day hour minute = simp (length-append, length_digits)

pub sentence-le : (b : Body) → length b.event ≡ 3 → b.count ≤ 31 → length (sentence_of b) ≤ 389
unfolding sentence_of
sentence-le b e h =
    let vs = take b.count b.locations in
    let t : length vs ≡ min b.count (length b.locations) = length-take b.count b.locations in
    simp length-append (omega (arith, who-le b.originator b.event e, joined-le vs (omega arith), length-when b.period b.day b.hour b.minute))
