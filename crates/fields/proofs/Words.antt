-- Words: those of a run, and those of a value read forward, character by character.
--     words_step                                   the first word, and the words behind it
--     word-behind, value-words                     the same at a place of a value
--     Wording: word-starts, word_more, word-space, word-done     the loop that reads a word: its beginning, a turn, and its two ends
use Prim.Native.Nat.{ℕ, zero, suc, ◌+◌, ◌≤◌, ◌<◌}
use mathlib.Core.Path.{◌≡◌, refl, sym, ap, ◌∙◌}
use mathlib.Core.Bool.{Bool, true, false}
use mathlib.Core.List.{List, [], ◌∷◌, map}
use native.Mathlib.Omega.{arith}
use borrow.Author.Tests.{eq-eqb, ne_eqb, eqb-true, eqb-false}
use lib.Dec.{eqb}
use lib.ListN.{length, length-set}
use lib.Seq.{sets}
use Rattle.octets.specs.Bytes.{pick, one_of}
use Rattle.octets.proofs.Tests.{picked, passed_over}
use Rattle.octets.proofs.Runs.{sets_more}
use Rattle.values.specs.Value.{runs}
use Rattle.values.specs.WorkingSteps.{rest_at, step_at, low}
use Rattle.std.specs.Prelude.{Option, Some, None}
use Rattle.values.proofs.Texts.{text-past}
use Rattle.values.proofs.Steps.{step-more, step-done}
use Rattle.fields.specs.References.{up_to, behind, longer, words}
use Rattle.fields.specs.WorkingWords.{word_in, word_on, next_from, next_word, word_at}
use Rattle.fields.specs.declared.Word.{Word}
use Rattle.fields.proofs.Partings.{up_to-stop, up_to-more, up_to-none, behind-stop, behind_more, behind-none}

-- ---- the words of a run

module _ (c : ℕ) (r : List ℕ) where
  words-space : eqb c 32 ≡ true → words (c ∷ r) ≡ [] ∷ words r
  unfolding words
  words-space e = rw e

  words-char : eqb c 32 ≡ false → words (c ∷ r) ≡ longer c (words r)
  unfolding words
  words-char e = rw e

  space-here : eqb c 32 ≡ true → one_of (c ∷ r) 32 ≡ true
  unfolding one_of
  space-here e = rw (eq-eqb 32 c (sym (eqb-true c 32 e)))

  space-later : eqb c 32 ≡ false → one_of (c ∷ r) 32 ≡ one_of r 32
  unfolding one_of
  space-later e = rw (ne_eqb 32 c (λ q. eqb-false c 32 e (sym q)))

space-none : one_of [] 32 ≡ false
unfolding one_of
space-none = refl

words-none : words [] ≡ [] ∷ []
unfolding words
words-none = refl

pub words_step : (r : List ℕ) → words r ≡ up_to 32 r ∷ pick (one_of r 32) (words (behind 32 r)) []
words_step [] = rw (words-none, up_to-none 32, space-none)
words_step (c ∷ r) = go (eqb c 32) refl (words_step r)
  where
    go : (b : Bool) → eqb c 32 ≡ b → words r ≡ up_to 32 r ∷ pick (one_of r 32) (words (behind 32 r)) [] → words (c ∷ r) ≡ up_to 32 (c ∷ r) ∷ pick (one_of (c ∷ r) 32) (words (behind 32 (c ∷ r))) []
    go true e h = rw (words-space c r e, up_to-stop 32 c r e, space-here c r e, behind-stop 32 c r e)
    go false e h = rw (words-char c r e, up_to-more 32 c r e, space-later c r e, behind_more 32 c r e) (ap (longer c) h)

pub words-some : (r : List ℕ) → 1 ≤ length (words r)
words-some r = rw (words_step r) (omega arith)

-- ---- where the next word of a value begins

module _ (s : List ℕ) where
  rest-past : (i : ℕ) → length s ≤ i → rest_at s i ≡ []
  unfolding runs
  rest-past i h = ap runs (text-past s i h)

  next-none : (i : ℕ) → next_from s zero i ≡ length s
  unfolding next_from
  next-none i = refl

  next-turn : (n i : ℕ) (g : Option (ℕ × ℕ)) → step_at s i ≡ g → next_from s (suc n) i ≡ word_on (length s) g (next_from s n)
  unfolding next_from
  next-turn n i g e = ap (λ (x : Option (ℕ × ℕ)). word_on (length s) x (next_from s n)) e

  next-space : (n i c j : ℕ) → step_at s i ≡ Some (c, j) → eqb c 32 ≡ true → next_from s (suc n) i ≡ j
  unfolding word_on
  next-space n i c j e b = next-turn n i (Some (c, j)) e ∙ picked (eqb c 32) j (next_from s n j) b

  next-char : (n i c j : ℕ) → step_at s i ≡ Some (c, j) → eqb c 32 ≡ false → next_from s (suc n) i ≡ next_from s n j
  unfolding word_on
  next-char n i c j e b = next-turn n i (Some (c, j)) e ∙ passed_over (eqb c 32) j (next_from s n j) b

  next-done : (n i : ℕ) → step_at s i ≡ None → next_from s n i ≡ length s
  unfolding word_on
  next-done zero i e = next-none i
  next-done (suc n) i e = next-turn n i None e

  next-behind : (n i : ℕ) → length s < i + n → rest_at s (next_from s n i) ≡ behind 32 (rest_at s i)
  next-behind zero i h =
      ap (rest_at s) (next-none i) ∙ rest-past (length s) (omega arith) ∙ sym (ap (behind 32) (rest-past i (omega arith)) ∙ behind-none 32)
  next-behind (suc n) i h = go (step_at s i) refl (λ j k. next-behind n j k)
    where
      turn : (c j : ℕ) (b : Bool) → eqb c 32 ≡ b → step_at s i ≡ Some (c, j) → ((j : ℕ) → length s < j + n → rest_at s (next_from s n j) ≡ behind 32 (rest_at s j)) → rest_at s (next_from s (suc n) i) ≡ behind 32 (rest_at s i)
      turn c j true b e ih =
          ap (rest_at s) (next-space n i c j e b) ∙ sym (ap (behind 32) (step-more s i c j e).0 ∙ behind-stop 32 c (rest_at s j) b)
      turn c j false b e ih =
          let l = (step-more s i c j e).1.on in
          ap (rest_at s) (next-char n i c j e b) ∙ ih j (omega arith) ∙ sym (ap (behind 32) (step-more s i c j e).0 ∙ behind_more 32 c (rest_at s j) b)

      go : (g : Option (ℕ × ℕ)) → step_at s i ≡ g → ((j : ℕ) → length s < j + n → rest_at s (next_from s n j) ≡ behind 32 (rest_at s j)) → rest_at s (next_from s (suc n) i) ≡ behind 32 (rest_at s i)
      go (Some (c, j)) e ih = turn c j (eqb c 32) refl e ih
      go None e ih = ap (rest_at s) (next-done (suc n) i e) ∙ rest-past (length s) (omega arith) ∙ sym (ap (behind 32) (step-done s i e) ∙ behind-none 32)

  pub word-behind : (i : ℕ) → rest_at s (next_word s i) ≡ behind 32 (rest_at s i)
  unfolding next_word
  word-behind i = next-behind (suc (length s)) i (omega arith)

  pub value-words : (i : ℕ) → words (rest_at s i) ≡ word_in s i ∷ pick (one_of (rest_at s i) 32) (words (rest_at s (next_word s i))) []
  value-words i = rw (word-behind i) (words_step (rest_at s i))

-- ---- reading a word of a value: at the place i, k of its characters are behind

pub record Wording (s : List ℕ) (at : ℕ) (d x : List ℕ) (i k : ℕ) : Type 0 where
  pub counts : k ≤ i
  pub long : length x ≡ length d
  pub puts : sets x k (map low (word_in s i)) ≡ sets d 0 (map low (word_in s at))
  pub sizes : k + length (word_in s i) ≡ length (word_in s at)
  pub more : one_of (rest_at s i) 32 ≡ one_of (rest_at s at) 32
  pub fuel : ℕ
  pub room : length s < i + fuel
  pub onto : next_from s fuel i ≡ next_word s at

pub word-starts : (s : List ℕ) (at : ℕ) (d : List ℕ) → Wording s at d d at 0
unfolding next_word
word-starts s at d = record { counts = omega arith; long = refl; puts = refl; sizes = omega arith; more = refl; fuel = suc (length s); room = omega arith; onto = refl }

-- a word by its parts
module _ (s : List ℕ) (i l : ℕ) (p : l ≡ length (word_in s i)) where
  last_made : false ≡ one_of (rest_at s i) 32 → ◌≡◌ {A = Word} (record { len = l; next = None }) (word_at s i)
  unfolding word_at
  last_made m = rw (p, sym m)

  more_made : (n : ℕ) → n ≡ next_word s i → true ≡ one_of (rest_at s i) 32 → ◌≡◌ {A = Word} (record { len = l; next = Some n }) (word_at s i)
  unfolding word_at
  more_made n q m = rw (p, q, sym m)

-- and its parts
module _ (s : List ℕ) (i : ℕ) (w : Word) (e : w ≡ word_at s i) where
  pub len_is : w.len ≡ length (word_in s i)
  unfolding word_at
  len_is = ap (λ (x : Word). x.len) e

  next-pick : w.next ≡ pick (one_of (rest_at s i) 32) (Some (next_word s i)) None
  unfolding word_at
  next-pick = ap (λ (x : Word). x.next) e

  pub more-is : (j : ℕ) → w.next ≡ Some j → (one_of (rest_at s i) 32 ≡ true) × (j ≡ next_word s i)
  more-is j h = go (one_of (rest_at s i) 32) (sym h ∙ next-pick)
    where
      go : (b : Bool) → ◌≡◌ {A = Option ℕ} (Some j) (pick b (Some (next_word s i)) None) → (b ≡ true) × (j ≡ next_word s i)
      go true q = (refl, cc)
      go false q = cc

  pub last-is : w.next ≡ None → one_of (rest_at s i) 32 ≡ false
  last-is h = go (one_of (rest_at s i) 32) (sym h ∙ next-pick)
    where
      go : (b : Bool) → ◌≡◌ {A = Option ℕ} None (pick b (Some (next_word s i)) None) → b ≡ false
      go true q = cc
      go false q = refl

module _ {s : List ℕ} {at : ℕ} {d x : List ℕ} {i k : ℕ} (r : Wording s at d x i k) where
  -- the loop is at the word's end
  ended : word_in s i ≡ [] → (k ≡ length (word_in s at)) × (x ≡ sets d 0 (map low (word_in s at)))
  ended e =
      let q = r.sizes in
      let z : length (word_in s i) ≡ 0 = ap length e in
      (omega arith, ap (λ (l : List ℕ). sets x k (map low l)) (sym e) ∙ r.puts)

  pub word-done : step_at s i ≡ None → (◌≡◌ {A = Word} (record { len = k; next = None }) (word_at s at)) × (x ≡ sets d 0 (map low (word_in s at)))
  word-done e =
      let z = step-done s i e in
      let w = ended (ap (up_to 32) z ∙ up_to-none 32) in
      let m : false ≡ one_of (rest_at s at) 32 = sym (ap (λ (l : List ℕ). one_of l 32) z ∙ space-none) ∙ r.more in
      (last_made s at k w.0 m, w.1)

  module _ (c j : ℕ) (e : step_at s i ≡ Some (c, j)) where
    -- as the loop has not gone past the message's end, fuel is left
    left : (n : ℕ) → length s < i + n → next_from s n i ≡ next_word s at → (P : Type 0) → ((m : ℕ) → n ≡ suc m → next_from s (suc m) i ≡ next_word s at → P) → P
    left zero h o P f = let l = (step-more s i c j e).1.on in let g = (step-more s i c j e).1.in-it in absurd (omega arith)
    left (suc m) h o P f = f m refl o

    pub word-space : c ≡ 32 → (◌≡◌ {A = Word} (record { len = k; next = Some j }) (word_at s at)) × (x ≡ sets d 0 (map low (word_in s at)))
    word-space q =
        let b : eqb c 32 ≡ true = eq-eqb c 32 q in
        let z = (step-more s i c j e).0 in
        let w = ended (ap (up_to 32) z ∙ up_to-stop 32 c (rest_at s j) b) in
        let m : true ≡ one_of (rest_at s at) 32 = sym (ap (λ (l : List ℕ). one_of l 32) z ∙ space-here c (rest_at s j) b) ∙ r.more in
        let n : j ≡ next_word s at = left r.fuel r.room r.onto (j ≡ next_word s at) (λ f p o. sym (next-space s f i c j e b) ∙ o) in
        (more_made s at k w.0 j n m, w.1)

    pub word_more : (c ≡ 32 → ⊥) → (a : ℕ) (y : List ℕ) → a ≡ low c → y ≡ sets x k (a ∷ []) → Wording s at d y j (k + 1)
    word_more q a y o p =
        let b : eqb c 32 ≡ false = ne_eqb c 32 q in
        let z = (step-more s i c j e).0 in
        let g = (step-more s i c j e).1.on in
        let v = r.sizes in
        let u = r.counts in
        let h = r.room in
        let w : word_in s i ≡ c ∷ word_in s j = ap (up_to 32) z ∙ up_to-more 32 c (rest_at s j) b in
        let y' : length (word_in s i) ≡ suc (length (word_in s j)) = ap length w in
        let t : sets x k (low c ∷ map low (word_in s j)) ≡ sets d 0 (map low (word_in s at)) = ap (λ (l : List ℕ). sets x k (map low l)) (sym w) ∙ r.puts in
        left r.fuel r.room r.onto (Wording s at d y j (k + 1)) (λ f l n. record {
          counts = omega arith;
          long = ap length p ∙ length-set x k a ∙ r.long;
          puts = rw p (sets_more x k (low c) a (map low (word_in s j)) (sets d 0 (map low (word_in s at))) t (sym o));
          sizes = omega arith;
          more = sym (ap (λ (l : List ℕ). one_of l 32) z ∙ space-later c (rest_at s j) b) ∙ r.more;
          fuel = f;
          room = omega arith;
          onto = sym (next-char s f i c j e b) ∙ n;
        })
