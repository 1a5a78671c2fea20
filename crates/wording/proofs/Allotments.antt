-- What description and instruction get.
--     shares-short    the allotments in one pass: description may take the greater of A − i and h, instruction what that leaves
--     parts-short     so only instruction is measured beforehand
--     parts-le, parts-full   description and instruction stay within 1,800 characters, and come to them where they don't fit
use Prim.Native.Nat.{ℕ, suc, ◌+◌, ◌-◌, ◌/◌, ◌≤◌, ◌<◌, min, max}
use mathlib.Core.List.{List, [], ◌∷◌, ◌++◌}
use mathlib.Core.Path.{◌≡◌, refl, sym, ap, ap₂, ◌∙◌}
use native.Mathlib.Decide.{dec_lt}
use native.Mathlib.Omega.{arith}
use lib.Dec.{eqb, leb}
use lib.ListN.{length, length-append}
use borrow.Author.Tests.{leb-true, leb-false, eqb-true}
use Rattle.octets.proofs.Tests.{either_way}
use Rattle.octets.specs.Bytes.{same}
use Rattle.wording.specs.WorkingGiven.{given_to}
use Rattle.wording.specs.Text.{Shares, after_space, one, room_of, shares_of, last_parts}
use Rattle.wording.proofs.Cuts.{one_none, one-some, cut-same, part, part_none, part-long}

-- the greater of A − i and h
abbrev pub up_to : ℕ → ℕ → ℕ
up_to a i = max (a - i) (a / 2)

record Short (a d i : ℕ) (g : Shares) : Type 0 where
  pub description : min g.description d ≡ min (up_to a i) d
  pub instruction : min g.instruction i ≡ min (a - min (up_to a i) d) i

-- t is what description takes
by : (a d i : ℕ) (g : Shares) (t : ℕ) → min (up_to a i) d ≡ t → min g.description d ≡ t → min g.instruction i ≡ min (a - t) i → Short a d i g
by a d i g t e f h = record { description = f ∙ sym e; instruction = h ∙ ap (λ (x : ℕ). min (a - x) i) (sym e) }

shares-short : (a d i : ℕ) → Short a d i (shares_of a d i)
unfolding shares_of
shares-short a d i =
    either_way S (leb (d + i) a) _ _ (λ h. let fits = leb-true (d + i) a h in by a d i _ d (omega arith) (omega arith) (omega arith))
    (λ h. let over = leb-false (d + i) a h in
    either_way S (eqb i 0) _ _ (λ k. let none = eqb-true i 0 k in by a d i _ a (omega arith) (omega arith) (omega arith))
    (λ _. either_way S (eqb d 0) _ _ (λ k. let none = eqb-true d 0 k in by a d i _ 0 (omega arith) (omega arith) (omega arith))
    (λ _. either_way S (leb i (a / 2)) _ _ (λ k. let half = leb-true i (a / 2) k in by a d i _ (a - i) (omega arith) (omega arith) (omega arith))
    (λ k. let more = leb-false i (a / 2) k in
    either_way S (leb d (a / 2)) _ _ (λ l. let half = leb-true d (a / 2) l in by a d i _ d (omega arith) (omega arith) (omega arith))
    (λ l. let both = leb-false d (a / 2) l in by a d i _ (a / 2) (omega arith) (omega arith) (omega arith))))))
  where
    S : Shares → Type 0
    S g = Short a d i g

up_le : (a i : ℕ) → up_to a i ≤ a
up_le a i = omega arith

pub up_first : (a i : ℕ) → i < a - a / 2 → a - i ≡ up_to a i
up_first a i h = omega arith

pub up-half : (a i : ℕ) → a - a / 2 ≤ i → a / 2 ≡ up_to a i
up-half a i h = omega arith

-- ---- what description may take

pub given-none : (n : ℕ) → given_to n 0 ≡ 1799 - n
unfolding given_to
given-none n = omega arith

pub given-some : (n i : ℕ) → 0 < i → up_to (1799 - n - 1) i ≡ given_to n i
unfolding given_to
given-some n i h = let a : 1799 - n - 1 ≡ 1799 - n - min 1 i = omega arith in ap (λ (x : ℕ). up_to x i) a

pub given-ge : (n i : ℕ) → n ≤ 1792 → 3 ≤ given_to n i
unfolding given_to
given-ge n i h = omega arith

given-le : (n i : ℕ) → given_to n i ≤ 1799 - n
unfolding given_to
given-le n i = let up = up_le (1799 - n - min 1 i) i in omega arith

one-le : (v : List ℕ) → one v ≤ 1
unfolding same
one-le [] = omega arith
one-le (c ∷ v) = omega arith

min-le : (x y : ℕ) → min x y ≤ x
min-le x y = omega arith

none_left : (x y : ℕ) → min x 0 ≡ min y 0
none_left x y = omega arith

-- as much of description as its share
takes : (n : ℕ) (d i : List ℕ) → min (up_to (room_of n d i) (length i)) (length d) ≡ min (given_to n (length i)) (length d)
unfolding room_of given_to same
takes n [] i = none_left (up_to (room_of n [] i) (length i)) (given_to n (length i))
takes n (x ∷ d) [] = let a : 1800 - n - 1 - 0 ≡ 1799 - n - min 1 0 = omega arith in ap (λ (k : ℕ). min (up_to k 0) (suc (length d))) a
takes n (x ∷ d) (y ∷ i) =
    let a : 1800 - n - 1 - 1 ≡ 1799 - n - min 1 (suc (length i)) = omega arith in
    ap (λ (k : ℕ). min (up_to k (suc (length i))) (suc (length d))) a

-- ---- what is left for instruction, of a where description has taken t and, with u, its space

record Rest (i a t e : ℕ) : Type 0 where
  pub is : 1799 - e ≡ a - t
  pub fair : 1799 - e < i → 3 ≤ 1799 - e
  pub within : e + (1 + min (1799 - e) i) ≤ 1800
  pub full : a ≤ t + i → e + (1 + min (1799 - e) i) ≡ 1800

rest-fair : (i a t : ℕ) → 6 ≤ a → t ≤ up_to a i → a - t < i → 3 ≤ a - t
rest-fair i a t h l k = omega arith

-- parts that do not fit use up the room
enough : (a d i : ℕ) → a < d + i → a ≤ min (up_to a i) d + i
enough a d i h = omega arith

rest : (n u i a t e : ℕ) → 6 ≤ a → a + n + u ≡ 1799 → e ≡ n + (u + t) → t ≤ up_to a i → Rest i a t e
rest n u i a t e h s q l =
    let up = up_le a i in
    let k : 1799 - e ≡ a - t = omega arith in
    record { is = k; fair = λ f. rw k (rest-fair i a t h l (rw k at f)); within = omega arith; full = λ f. omega arith }

-- ---- the parts

-- allotments that leave equally much of a part that is not empty
part_same : (g k : ℕ) (v : List ℕ) → (0 < length v → min g (length v) ≡ min k (length v)) → part g v ≡ part k v
part_same g k v e = go (dec_lt 0 (length v))
  where
    go : Dec (0 < length v) → part g v ≡ part k v
    go (yes h) = ap after_space (cut-same g k v (e h))
    go (no h) = part_none g v (omega arith) ∙ sym (part_none k v (omega arith))

-- description may take g and ends at e
module _ (n : ℕ) (d i : List ℕ) (h : n ≤ 1792) (g e : ℕ) (p : g ≡ given_to n (length i)) (q : e ≡ n + length (part g d)) where
  end_is : e ≡ n + (one d + min g (length d))
  end_is = omega (arith, part-long g d (λ l. omega (arith, given-ge n (length i) h)))

  pub description-room : e ≤ 1800
  description-room = omega (arith, end_is, given-le n (length i), one-le d)

  left : 0 < length i → Rest (length i) (room_of n d i) (min g (length d)) e
  unfolding room_of
  left k =
      let w : one i ≡ 1 = one-some i k in
      let u = one-le d in
      let a : 6 ≤ room_of n d i = omega arith in
      let s : room_of n d i + n + one d ≡ 1799 = omega arith in
      let t : min g (length d) ≡ min (up_to (room_of n d i) (length i)) (length d) = rw p (sym (takes n d i)) in
      rest n (one d) (length i) (room_of n d i) (min g (length d)) e a s end_is (rw t (min-le (up_to (room_of n d i) (length i)) (length d)))

  pub parts-short : last_parts n d i ≡ part g d ++ part (1799 - e) i
  unfolding last_parts
  parts-short =
      let s = shares-short (room_of n d i) (length d) (length i) in
      let t : min (up_to (room_of n d i) (length i)) (length d) ≡ min g (length d) = rw p (takes n d i) in
      ap₂ (λ (x : List ℕ) (y : List ℕ). x ++ y)
      (part_same _ g d (λ k. s.description ∙ t))
      (part_same _ (1799 - e) i (λ k. s.instruction ∙ ap (λ (x : ℕ). min (room_of n d i - x) (length i)) t ∙ ap (λ (x : ℕ). min x (length i)) (sym (left k).is)))

  pub instruction-begins : 0 < length i → e ≤ 1799
  instruction-begins k = omega (arith, (left k).within)

  pub instruction-fair : 0 < length i → 1799 - e < length i → 3 ≤ 1799 - e
  instruction-fair k = (left k).fair

  pub instruction-room : 0 < length i → e + length (part (1799 - e) i) ≤ 1800
  instruction-room k = omega (arith, part-long (1799 - e) i (instruction-fair k), one-some i k, (left k).within)

  both_end : n + length (last_parts n d i) ≡ e + length (part (1799 - e) i)
  both_end =
      let all : length (last_parts n d i) ≡ length (part g d) + length (part (1799 - e) i) = ap length parts-short ∙ length-append (part g d) (part (1799 - e) i) in
      omega arith

  both-le : Dec (0 < length i) → e + length (part (1799 - e) i) ≤ 1800
  both-le (yes k) = instruction-room k
  both-le (no k) = omega (arith, ap length (part_none (1799 - e) i (omega arith)), description-room)

  both-full : Dec (0 < length i) → room_of n d i < length d + length i → e + length (part (1799 - e) i) ≡ 1800
  unfolding room_of
  both-full (yes k) f =
      let t : min g (length d) ≡ min (up_to (room_of n d i) (length i)) (length d) = rw p (sym (takes n d i)) in
      let uses : room_of n d i ≤ min g (length d) + length i = rw t (enough (room_of n d i) (length d) (length i) f) in
      omega (arith, part-long (1799 - e) i (instruction-fair k), one-some i k, (left k).full uses)
  both-full (no k) f =
      let none : length i ≡ 0 = omega arith in
      let room : room_of n d i ≡ 1800 - n - one d - 0 = ap (λ (x : ℕ). 1800 - n - one d - x) (one_none i none) in
      let all : g ≡ 1799 - n = p ∙ ap (given_to n) none ∙ given-none n in
      let some : one d ≡ 1 = one-some d (omega arith) in
      omega (arith, ap length (part_none (1799 - e) i none), end_is)

module _ (n : ℕ) (d i : List ℕ) (h : n ≤ 1792) where
  pub parts-le : n + length (last_parts n d i) ≤ 1800
  parts-le = rw (both_end n d i h _ _ refl refl) (both-le n d i h _ _ refl refl (dec_lt 0 (length i)))

  pub parts-full : room_of n d i < length d + length i → n + length (last_parts n d i) ≡ 1800
  parts-full f = both_end n d i h _ _ refl refl ∙ both-full n d i h _ _ refl refl (dec_lt 0 (length i)) f
