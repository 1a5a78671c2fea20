-- References, group by group: n groups may still come, and the words that are left decide.
use Prim.Native.Nat.{ℕ, suc, ◌-◌, ◌≤◌, ◌<◌}
use mathlib.Core.Path.{◌≡◌, refl, sym, ap, ap₂, ◌∙◌}
use mathlib.Core.Bool.{Bool, true, false, and-true}
use mathlib.Core.List.{List, [], ◌∷◌, map}
use native.Mathlib.Omega.{arith}
use native.Mathlib.Decide.{dec_lt}
use borrow.Author.Tests.{le-leb, lt-leb}
use lib.Dec.{leb}
use lib.ListN.{length, take, replicate, length-map}
use lib.Seq.{sets}
use Rattle.std.proofs.Common.{Bor}
use Rattle.std.specs.Prelude.{Option, Some, None, MatchOption}
use Rattle.std.specs.Slice.{IsGetRangeResult}
use mathlib.Core.Logic.{⊎_elim}
use Rattle.octets.specs.Bytes.{pick, every, holds, between, one_of}
use Rattle.octets.proofs.Tests.{every_of, one-fails, every-step, every-stop, every-none}
use Rattle.values.specs.Value.{value_at}
use Rattle.values.specs.WorkingSteps.{rest_at, lead_at, low}
use Rattle.values.proofs.Steps.{value-start}
use Rattle.fields.specs.WorkingFields.{group_ok, references_ok}
use Rattle.fields.specs.References.{words}
use Rattle.fields.specs.WorkingWords.{word_in, next_word, word_at}
use Rattle.fields.specs.declared.Word.{Word}
use Rattle.fields.proofs.Buffers.{put-long, taken_back, taken-long}
use Rattle.fields.proofs.Groups.{group-long, group-low}
use Rattle.fields.proofs.Words.{words-some, value-words, len_is}

-- at most n words, each a group
abbrev pub fine : ℕ → List (List ℕ) → Bool
fine n ws = every holds (leb (length ws) n ∷ every group_ok ws ∷ [])

from-one-up : (n : ℕ) → 1 ≤ n → leb n 16 ≡ between 1 16 n
unfolding between every
from-one-up n h = rw (le-leb 1 n h, and-true)

pub fine-starts : (s : List ℕ) (at : ℕ) → fine 16 (words (rest_at s (lead_at s at))) ≡ references_ok (value_at s at)
unfolding references_ok
fine-starts s at =
    let v = value_at s at in
    ap (λ (l : List ℕ). fine 16 (words l)) (value-start s at)
    ∙ ap (λ (b : Bool). every holds (b ∷ every group_ok (words v) ∷ [])) (from-one-up (length (words v)) (words-some v))

one_less : (a n : ℕ) → 0 < n → leb (suc a) n ≡ leb a (n - 1)
one_less a n h = go (dec_lt (n - 1) a)
  where
    go : Dec (n - 1 < a) → leb (suc a) n ≡ leb a (n - 1)
    go (yes l) = lt-leb (suc a) n (omega arith) ∙ sym (lt-leb a (n - 1) l)
    go (no l) = le-leb (suc a) n (omega arith) ∙ sym (le-leb a (n - 1) (omega arith))

module _ (s : List ℕ) (i n : ℕ) (ok : Bool) (so : fine n (words (rest_at s i)) ≡ ok) where
  -- the first word, and the others
  split : (b : Bool) → one_of (rest_at s i) 32 ≡ b → ok ≡ fine n (word_in s i ∷ pick b (words (rest_at s (next_word s i))) [])
  split b e = sym so ∙ ap (fine n) (value-words s i ∙ ap (λ (x : Bool). word_in s i ∷ pick x (words (rest_at s (next_word s i))) []) e)

  pub fine-not : group_ok (word_in s i) ≡ false → false ≡ ok
  fine-not g = sym (split (one_of (rest_at s i) 32) refl ∙ one-fails 1 (_ ∷ _ ∷ []) (every-stop group_ok (word_in s i) _ g))

  pub fine-last : 0 < n → group_ok (word_in s i) ≡ true → one_of (rest_at s i) 32 ≡ false → true ≡ ok
  fine-last h g e = sym (split false e ∙ every_of (_ ∷ _ ∷ []) (le-leb 1 n h, (every-step group_ok (word_in s i) [] g ∙ every-none group_ok, tt)))

  pub fine_more : 0 < n → group_ok (word_in s i) ≡ true → one_of (rest_at s i) 32 ≡ true → fine (n - 1) (words (rest_at s (next_word s i))) ≡ ok
  fine_more h g e =
      let ws = words (rest_at s (next_word s i)) in
      sym (split true e ∙ ap₂ (λ (a b : Bool). every holds (a ∷ b ∷ [])) (one_less (length ws) n h) (every-step group_ok (word_in s i) ws g))

  pub fine-over : n ≤ 0 → false ≡ ok
  fine-over h = let w = words-some (rest_at s i) in
      sym (sym so ∙ one-fails 0 (_ ∷ _ ∷ []) (lt-leb (length (words (rest_at s i))) n (omega arith)))

-- the word that was read into a buffer is judged as what is taken from there
module _ (s : List ℕ) (i : ℕ) (w : Word) (x : List ℕ) (e : w ≡ word_at s i) (p : x ≡ sets (replicate {A = ℕ} 155 0) 0 (map low (word_in s i))) where
  low-long : w.len ≡ length (map low (word_in s i))
  low-long = len_is s i w e ∙ sym (length-map (word_in s i) low)

  pub word_room : length x ≡ 155
  word_room = put-long (replicate {A = ℕ} 155 0) (map low (word_in s i)) x 155 w.len refl p low-long

  pub word-long : w.len ≤ 155 → w.len ≡ length (take w.len x)
  word-long h = taken-long (replicate {A = ℕ} 155 0) (map low (word_in s i)) x 155 w.len refl p low-long h

  pub word_copied : w.len ≤ 155 → take w.len x ≡ map low (word_in s i)
  word_copied h = taken_back (replicate {A = ℕ} 155 0) (map low (word_in s i)) x 155 w.len refl p low-long h

  pub judged : w.len ≤ 155 → {r : Bool} → r ≡ group_ok (take w.len x) → group_ok (word_in s i) ≡ r
  judged h q = sym (q ∙ ap group_ok (word_copied h) ∙ group-low (word_in s i))

  -- as the buffer is asked for the word: none where it is longer, and then it is no group
  pub asked : (o : Option (Bor (List ℕ))) (r : Bool) → IsGetRangeResult x 0 w.len o → MatchOption o (r ≡ false) (λ t. r ≡ group_ok t.now) → group_ok (word_in s i) ≡ r
  asked None r g h = group-long (word_in s i) w.len (len_is s i w e) (⊎_elim (λ l. absurd (omega (arith, l))) (λ l. omega (arith, l, word_room)) g.0) ∙ sym h
  asked (Some t) r g h =
      let l : w.len ≤ 155 = omega (arith, g.0.1, word_room) in
      let q : w.len - 0 ≡ w.len = omega arith in
      judged l (h ∙ ap group_ok (g.0.2 ∙ ap (λ (k : ℕ). take k x) q))
