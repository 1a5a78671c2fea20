-- The loop that compares a value, decoded, with w: what is left of both at i and k decides as the whole did.
--     decoding-starts, decoding-more               the loop's beginning and a turn
--     decoding-ends, decoding-long, decoding-not   the value's end, a character too many, a character that differs
use Prim.Native.Nat.{ℕ, zero, suc, ◌+◌, ◌<◌, ◌≤◌}
use mathlib.Core.Path.{◌≡◌, refl, sym, ap, ◌∙◌}
use mathlib.Core.Bool.{Bool, false}
use mathlib.Core.List.{List, [], ◌∷◌}
use native.Mathlib.Omega.{arith}
use native.Mathlib.Decide.{dec_lt}
use lib.ListN.{length, drop, get_or, drop_of_length-le}
use lib.Dec.{eqb}
use borrow.Author.Tests.{eq-eqb, ne_eqb}
use Rattle.octets.specs.Bytes.{byte_at, same}
use Rattle.octets.proofs.Parts.{tail_step}
use Rattle.octets.proofs.Sames.{same_step, same_stop}
use Rattle.pieces.specs.Pieces.{char_at}
use Rattle.std.specs.Prelude.{Option, Some, None, is_none}
use Rattle.pieces.proofs.Goes.{Goes, char-goes}
use Rattle.tags.specs.Attributes.{character_then, decoded_from, decoded_at}

pub record Decoding (s w : List ℕ) (q : ℕ) (whole : Bool) (i k : ℕ) : Type 0 where
  pub fuel : ℕ
  pub room : length s ≤ i + fuel
  pub within : k ≤ length w
  pub left : same (decoded_from s q fuel i) (drop k w) ≡ whole

pub decoding-starts : (s w : List ℕ) (at q : ℕ) → q ≡ byte_at s at → Decoding s w q (same (decoded_at s at) w) (at + 1) 0
unfolding decoded_at
decoding-starts s w at q e = record { fuel = length s; room = omega arith; within = omega arith; left = rw e }

same_end : (w : List ℕ) (k : ℕ) → k ≤ length w → same [] (drop k w) ≡ eqb k (length w)
unfolding same
same_end w k h = go (dec_lt k (length w))
  where
    go : Dec (k < length w) → same [] (drop k w) ≡ eqb k (length w)
    go (yes l) = rw (tail_step w k l, ne_eqb k (length w) (omega arith))
    go (no l) = let m : length w ≤ k = omega arith in rw (drop_of_length-le w m, eq-eqb k (length w) (omega arith))

module _ (s w : List ℕ) (q : ℕ) (whole : Bool) (i k : ℕ) (d : Decoding s w q whole i k) where
  -- what stands at i is the value's end
  ended : ((n : ℕ) → decoded_from s q n i ≡ []) → eqb k (length w) ≡ whole
  ended h = sym (same_end w k d.within) ∙ ap (λ (l : List ℕ). same l (drop k w)) (sym (h d.fuel)) ∙ d.left

  pub decoding-ends : byte_at s i ≡ q → eqb k (length w) ≡ whole
  unfolding decoded_from
  decoding-ends e = ended go
    where
      go : (n : ℕ) → decoded_from s q n i ≡ []
      go zero = refl
      go (suc n) = rw (eq-eqb (byte_at s i) q e, decoded_from)

  pub decoding-wrong : (byte_at s i ≡ q → ⊥) → char_at s i ≡ None → eqb k (length w) ≡ whole
  unfolding decoded_from character_then
  decoding-wrong n e = ended go
    where
      go : (m : ℕ) → decoded_from s q m i ≡ []
      go zero = refl
      go (suc m) = rw (ne_eqb (byte_at s i) q n, e, decoded_from)

-- a turn of the loop that reads the character c, which ends at j
pub record Read (s w : List ℕ) (q : ℕ) (whole : Bool) (i k c j : ℕ) : Type 0 where
  pub so_far : Decoding s w q whole i k
  pub no_end : byte_at s i ≡ q → ⊥
  pub is : char_at s i ≡ Some (c, j)

module _ {s w : List ℕ} {q : ℕ} {whole : Bool} {i k c j : ℕ} (r : Read s w q whole i k c j) where
  pub decoding-on : Goes s i j
  decoding-on = rw r.is at (char-goes s i)

  step : (m : ℕ) → decoded_from s q (suc m) i ≡ c ∷ decoded_from s q m j
  unfolding decoded_from character_then
  step m = rw (ne_eqb (byte_at s i) q r.no_end, r.is, decoded_from)

  -- one character and what follows it, whatever is left to take
  turned : {A : Type 0} → ((m : ℕ) → length s ≤ i + suc m → same (c ∷ decoded_from s q m j) (drop k w) ≡ whole → A) → A
  turned {A} f = go r.so_far.fuel r.so_far.room r.so_far.left
    where
      go : (m : ℕ) → length s ≤ i + m → same (decoded_from s q m i) (drop k w) ≡ whole → A
      go zero x l = let g = decoding-on in let y = g.on in let z = g.in-it in absurd (omega arith)
      go (suc m) x l = f m x (ap (λ (z : List ℕ). same z (drop k w)) (sym (step m)) ∙ l)

  pub decoding-long : length w ≤ k → false ≡ whole
  unfolding same
  decoding-long h = turned (λ m x l. rw (drop_of_length-le w h) at l)

  pub decoding-not : k < length w → (c ≡ get_or w k 0 → ⊥) → false ≡ whole
  decoding-not h u = turned (λ m x l. sym (same_stop c (get_or w k 0) (decoded_from s q m j) (drop (k + 1) w) u) ∙ rw (tail_step w k h) at l)

  pub decoding-more : k < length w → c ≡ get_or w k 0 → Decoding s w q whole j (k + 1)
  decoding-more h u = turned (λ m x l.
      let y = decoding-on.on in
      record {
        fuel = m;
        room = omega arith;
        within = omega arith;
        left = sym (same_step c (get_or w k 0) (decoded_from s q m j) (drop (k + 1) w) u) ∙ rw (tail_step w k h) at l;
      })

-- behind w, the value ends or has a character too many
pub decoding-last : (s w : List ℕ) (q : ℕ) (whole : Bool) (i k : ℕ) → Decoding s w q whole i k → (byte_at s i ≡ q → ⊥) → length w ≤ k → is_none (char_at s i) ≡ whole
decoding-last s w q whole i k d n h = go (char_at s i) refl
  where
    go : (r : Option (ℕ × ℕ)) → char_at s i ≡ r → is_none r ≡ whole
    go (Some (c, j)) e = decoding-long (record { so_far = d; no_end = n; is = e }) h
    go None e = let x = d.within in sym (eq-eqb k (length w) (omega arith)) ∙ decoding-wrong s w q whole i k d n e
