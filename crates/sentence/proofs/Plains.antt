-- The sentence's characters, where the body is in order.
--     sentence-printable                 each is of 32 to 126
--     sentence-plain, sentence-legal     and so below 128, and legal
use Prim.Native.Nat.{ℕ, ◌/◌, ◌%◌, ◌≤◌}
use mathlib.Core.Bool.{Bool, true}
use mathlib.Core.List.{List, [], ◌∷◌, ◌++◌}
use mathlib.Core.Path.{◌≡◌, refl, sym}
use native.Mathlib.Omega.{arith}
use lib.Dec.{ltb}
use lib.ListN.{take}
use borrow.Author.Tests.{lt-ltb}
use Rattle.octets.proofs.Everys.{every-weaker}
use Rattle.octets.proofs.Numbers.{digits_are}
use Rattle.octets.proofs.Tests.{every-none, every_first, every_rest, every_append, between_is, between-low, between-high, either_way}
use Rattle.octets.specs.Bytes.{every, between, is_digit, is_capital, same}
use Rattle.octets.specs.Digits.{digits}
use Rattle.octets.specs.Text.{bytes}
use Rattle.characters.specs.Utf8.{is_legal}
use Rattle.characters.proofs.Legals.{legal-basic}
use Rattle.parts.proofs.Has.{has}
use Rattle.parts.specs.Parts.{body_ok}
use Rattle.parts.specs.declared.Body.{Body}
use Rattle.parts.specs.declared.Originator.{Originator}
use Rattle.parts.specs.declared.Originator.TheVariants.{Pep, Eas, Wxr, Civ}
use Rattle.sentence.specs.Words.{EventWords, org_words, event_table, words_in, event_words, location_word, others, location_words, who_words, when_words, sentence_of}

-- 32 to 126
abbrev is_plain : ℕ → Bool
is_plain c = between 32 126 c

-- each character of a text is such
record Plain (t : List ℕ) : Type 0 where
  pub is : every is_plain t ≡ true

and : {s t : List ℕ} → Plain s → Plain t → Plain (s ++ t)
and {s} {t} p q = record { is = every_append is_plain s t p.is q.is }

ranged-plain : (lo hi : ℕ) → 32 ≤ lo → hi ≤ 126 → (t : List ℕ) → every (between lo hi) t ≡ true → every is_plain t ≡ true
ranged-plain lo hi l h =
    every-weaker (between lo hi) is_plain (λ c b. between_is 32 126 c (omega (arith, between-low lo hi c b)) (omega (arith, between-high lo hi c b)))

number : (n v : ℕ) → Plain (digits n v)
unfolding is_digit
number n v = record { is = ranged-plain 48 57 (omega arith) (omega arith) (digits n v) (digits_are n v) }

capitals : (t : List ℕ) → every is_capital t ≡ true → Plain t
unfolding is_capital
capitals t h = record { is = ranged-plain 65 90 (omega arith) (omega arith) t h }

-- ---- who, and what

org-plain : (o : Originator) → Plain (org_words o)
unfolding org_words bytes between every
org-plain Pep = record { is = refl }
org-plain Eas = record { is = refl }
org-plain Wxr = record { is = refl }
org-plain Civ = record { is = refl }

-- an event's words are such
abbrev plain_words : EventWords → Bool
plain_words r = every is_plain r.words

words-plain : (rs : List EventWords) (e : List ℕ) → every plain_words rs ≡ true → Plain e → Plain (words_in rs e)
unfolding words_in bytes between every
words-plain [] e t p = record { is = p.is }
words-plain (r ∷ rs) e t p =
    either_way Plain (same e r.code) r.words (words_in rs e)
    (λ _. record { is = every_first plain_words r rs t }) (λ _. words-plain rs e (every_rest plain_words r rs t) p)

event-plain : (e : List ℕ) → Plain e → Plain (event_words e)
unfolding bytes between every
event-plain e p = words-plain event_table e refl p

who-plain : (o : Originator) (e : List ℕ) → Plain e → Plain (who_words o e)
unfolding who_words bytes between every
who-plain o e p = and (and (and (org-plain o) (record { is = refl })) (event-plain e p)) (record { is = refl })

-- ---- where

others-plain : (vs : List ℕ) → Plain (others vs)
unfolding others location_word bytes between every
others-plain [] = record { is = refl }
others-plain (v ∷ vs) = record { is = (and (number 6 v) (others-plain vs)).is }

joined-plain : (vs : List ℕ) → Plain (location_words vs)
unfolding location_words location_word
joined-plain [] = record { is = every-none is_plain }
joined-plain (v ∷ vs) = and (number 6 v) (others-plain vs)

-- ---- when

-- s, and behind it t and n digits of v
numbered : {s : List ℕ} → Plain s → (t : List ℕ) (n v : ℕ) → every is_plain t ≡ true → Plain (s ++ t ++ digits n v)
numbered p t n v h = and (and p (record { is = h })) (number n v)

when-plain : (period day hour minute : ℕ) → Plain (when_words period day hour minute)
unfolding when_words bytes between every
when-plain period day hour minute =
    let start : Plain (bytes ", valid from ") = record { is = refl } in
    let clock = numbered (and start (number 2 hour)) (bytes ":") 2 minute refl in
    let day = numbered clock (bytes " UTC on day ") 3 day refl in
    let hours = numbered day (bytes " for ") 2 (period / 60) refl in
    and (numbered hours (bytes " hours ") 2 (period % 60) refl) (record { is = refl })

-- ---- the sentence

module _ (b : Body) (h : body_ok b ≡ true) where
  pub sentence-printable : every (between 32 126) (sentence_of b) ≡ true
  unfolding sentence_of
  sentence-printable =
      let who = who-plain b.originator b.event (capitals b.event (has b h).capitals) in
      let joined = joined-plain (take b.count b.locations) in
      (and (and who joined) (when-plain b.period b.day b.hour b.minute)).is

  pub sentence-plain : every (λ c. ltb c 128) (sentence_of b) ≡ true
  sentence-plain = every-weaker is_plain (λ c. ltb c 128) (λ c p. lt-ltb c 128 (omega (arith, between-high 32 126 c p))) (sentence_of b) sentence-printable

  pub sentence-legal : every is_legal (sentence_of b) ≡ true
  sentence-legal =
      every-weaker is_plain is_legal (λ c p. sym (legal-basic c (between-low 32 126 c p) (omega (arith, between-high 32 126 c p)))) (sentence_of b) sentence-printable
