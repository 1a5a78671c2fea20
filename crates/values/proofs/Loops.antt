-- The loops that read a value character by character: at the place i, k characters of the value v are behind.
--     Reading      read-starts, read_more, read-mark, read_done   the loop's beginning, a turn, and its end
--     Matching     the same while v, seen through f, is compared with w
--     Copying      the same while the first g characters of v are put into d from `to` on, each as a byte
--     Spelling     the same while they are put in UTF-8
use Prim.Native.Nat.{ℕ, zero, suc, ◌+◌, ◌-◌, ◌<◌, ◌≤◌}
use mathlib.Core.Path.{◌≡◌, refl, sym, ap, ap₂, ◌∙◌, subst}
use mathlib.Core.Bool.{Bool, true, false}
use mathlib.Core.List.{List, [], ◌∷◌, ◌++◌, map}
use native.Mathlib.Nat.{add-zero, sub-zero}
use native.Mathlib.Omega.{arith}
use native.Mathlib.Decide.{dec_lt}
use borrow.Author.Tests.{eq-eqb, ne_eqb, lt-ltb, le-ltb}
use lib.Dec.{eqb, ltb}
use lib.ListN.{length, take, drop, get_or, set, length-append, length-take, length-drop, length-set, drop_of_length-le}
use lib.Seq.{sets, length-sets, get_or-take, take-add, drop_at, length-take-le}
use Rattle.octets.specs.Bytes.{every, byte_at, same}
use Rattle.octets.proofs.Parts.{tail_step}
use Rattle.octets.proofs.Runs.{sets-append, sets_more}
use Rattle.octets.proofs.Sames.{same_step, same_stop}
use Rattle.octets.proofs.Tests.{every_first}
use Rattle.characters.specs.Utf8.{is_legal, encoded, width, utf8}
use Rattle.characters.proofs.Forms.{encoded-one}
use Rattle.calm.specs.WorkingCalm.{is_mark}
use Rattle.pieces.proofs.Goes.{Goes}
use Rattle.values.specs.Value.{value_at}
use Rattle.values.specs.WorkingSteps.{rest_at, lead_at, step_at, low, onward, place_after, spelled_of}
use Rattle.std.specs.Prelude.{Some, None}
use Rattle.values.proofs.Legal.{rest-legal}
use Rattle.values.proofs.Steps.{value-start, step-more, step-done, mark-step}

-- a mark, which was seen to be one, is the next character
pub mark-is : (s : List ℕ) (i b : ℕ) (t : Bool) → b ≡ byte_at s i → t ≡ is_mark b → t ≡ true → step_at s i ≡ Some (b, i + 1)
mark-is s i b t e m h = mark-step s i (ap is_mark (sym e) ∙ sym m ∙ h) ∙ ap (λ (x : ℕ). Some (x, i + 1)) (sym e)

pub record Reading (s v : List ℕ) (i k : ℕ) : Type 0 where
  pub rest : rest_at s i ≡ drop k v
  pub within : k ≤ length v
  pub counts : k ≤ i

-- the character c stands at i, and the next at j
pub record More (s v : List ℕ) (i k c j : ℕ) : Type 0 where
  pub goes : Goes s i j
  pub inside : k < length v
  pub front : drop k v ≡ c ∷ drop (k + 1) v
  pub is : get_or v k 0 ≡ c
  pub reads : Reading s v j (k + 1)

-- from the place `at` in a value, and from the first character of one
pub rest-starts : (s : List ℕ) (at : ℕ) → Reading s (rest_at s at) at 0
rest-starts s at = record { rest = refl; within = omega arith; counts = omega arith }

pub read-starts : (s : List ℕ) (at : ℕ) → Reading s (value_at s at) (lead_at s at) 0
read-starts s at = record { rest = value-start s at; within = omega arith; counts = omega arith }

module _ {s v : List ℕ} {i k : ℕ} (r : Reading s v i k) where
  pub read_more : (c j : ℕ) → step_at s i ≡ Some (c, j) → More s v i k c j
  read_more c j e =
      let m = step-more s i c j e in
      let g = m.1.on in
      let n = r.counts in
      let q : c ∷ rest_at s j ≡ drop k v = sym m.0 ∙ r.rest in
      let l : k < length v = omega (arith, simp length-drop at (ap length q)) in
      let t : drop k v ≡ get_or v k 0 ∷ drop (k + 1) v = tail_step v k l in
      record { goes = m.1; inside = l; front = cc; is = cc; reads = record { rest = cc; within = omega arith; counts = omega arith } }

  pub read_done : step_at s i ≡ None → k ≡ length v
  read_done e =
      let q : [] ≡ drop k v = sym (step-done s i e) ∙ r.rest in
      let w = r.within in
      omega (arith, simp length-drop at (ap length q))

-- ---- comparing

pub record Matching (f : ℕ → ℕ) (s v w : List ℕ) (i k : ℕ) : Type 0 where
  pub reads : Reading s v i k
  pub fits : k ≤ length w
  pub left : same (map f (drop k v)) (drop k w) ≡ same (map f v) w

module _ {f : ℕ → ℕ} {s v w : List ℕ} {i k : ℕ} (r : Matching f s v w i k) where
  module _ {c j : ℕ} (m : More s v i k c j) where
    -- both go on
    both : k < length w → same (map f v) w ≡ same (f c ∷ map f (drop (k + 1) v)) (get_or w k 0 ∷ drop (k + 1) w)
    both l = sym r.left ∙ ap₂ (λ (x y : List ℕ). same (map f x) y) m.front (tail_step w k l)

    pub match-more : k < length w → f c ≡ get_or w k 0 → Matching f s v w j (k + 1)
    match-more l e = record { reads = m.reads; fits = omega arith; left = sym (both l ∙ same_step _ _ _ _ e) }

    pub match-differs : k < length w → (f c ≡ get_or w k 0 → ⊥) → false ≡ same (map f v) w
    match-differs l n = sym (both l ∙ same_stop _ _ _ _ n)

    -- the value goes on where w has ended
    pub match-over : k ≡ length w → false ≡ same (map f v) w
    unfolding same
    match-over e =
        let l : length w ≤ k = omega arith in
        sym (ap₂ (λ (x y : List ℕ). same (map f x) y) m.front (drop_of_length-le w l)) ∙ r.left

  pub match-done : k ≡ length v → eqb k (length w) ≡ same (map f v) w
  unfolding same
  match-done e =
      let l : length v ≤ k = omega arith in
      let n = r.fits in
      go (dec_lt k (length w)) ∙ ap (λ (x : List ℕ). same (map f x) (drop k w)) (sym (drop_of_length-le v l)) ∙ r.left
    where
      go : Dec (k < length w) → eqb k (length w) ≡ same [] (drop k w)
      go (yes h) = let d : k ≡ length w → ⊥ = omega arith in rw (tail_step w k h, ne_eqb k (length w) d)
      go (no h) = let n = r.fits in let d : k ≡ length w = omega arith in let l : length w ≤ k = omega arith in rw (drop_of_length-le w l, eq-eqb k (length w) d)

-- ---- the first g characters

module _ {s v : List ℕ} {g i k c j : ℕ} (m : More s v i k c j) (l : k < g) where
  pub in_take : k < length (take g v)
  in_take = let h = m.inside in simp length-take (omega arith)

  front-take : drop k (take g v) ≡ c ∷ drop (k + 1) (take g v)
  front-take = tail_step (take g v) k in_take ∙ ap (λ (x : ℕ). x ∷ drop (k + 1) (take g v)) (get_or-take g v k 0 l ∙ m.is)

module _ {s v : List ℕ} {g i k : ℕ} (r : Reading s v i k) (most : k ≤ g) where
  -- the value has ended, or g characters are behind
  all-behind : length (take g v) ≤ k → k ≡ length (take g v)
  all-behind h = let w = r.within in let e : k ≤ length (take g v) = simp length-take (omega arith) in omega arith

  value-over : k ≡ length v → length (take g v) ≤ k
  value-over e = simp length-take (omega arith)

  take-full : g ≤ k → length (take g v) ≤ k
  take-full h = simp length-take (omega arith)

-- ---- copying, each character as a byte

pub record Copying (s v : List ℕ) (g : ℕ) (d : List ℕ) (to : ℕ) (x : List ℕ) (i k : ℕ) : Type 0 where
  pub reads : Reading s v i k
  pub most : k ≤ g
  pub long : length x ≡ length d
  pub left : sets x (to + k) (map low (drop k (take g v))) ≡ sets d to (map low (take g v))

pub copy-starts : {s v : List ℕ} {i : ℕ} → Reading s v i 0 → (g : ℕ) (d : List ℕ) (to : ℕ) → Copying s v g d to d i 0
copy-starts r g d to = record { reads = r; most = omega arith; long = refl; left = rw add-zero }

module _ {s v : List ℕ} {g : ℕ} {d : List ℕ} {to : ℕ} {x : List ℕ} {i k : ℕ} (r : Copying s v g d to x i k) where
  pub copy_more : {c j : ℕ} (b : ℕ) → More s v i k c j → k < g → b ≡ low c → Copying s v g d to (set x (to + k) b) j (k + 1)
  copy_more {c} b m l e =
      let q : sets x (to + k) (low c ∷ map low (drop (k + 1) (take g v))) ≡ sets d to (map low (take g v)) = sym (ap (λ (y : List ℕ). sets x (to + k) (map low y)) (front-take m l)) ∙ r.left in
      let p : sets (set x (to + k) b) (to + k + 1) (map low (drop (k + 1) (take g v))) ≡ sets d to (map low (take g v)) =
      sets_more x (to + k) (low c) b (map low (drop (k + 1) (take g v))) (sets d to (map low (take g v))) q (sym e) in
      let f : to + (k + 1) ≡ to + k + 1 = omega arith in
      record { reads = m.reads; most = omega arith; long = simp length-set r.long; left = rw f p }

  copied : length (take g v) ≤ k → (k ≡ length (take g v)) × (x ≡ sets d to (map low (take g v)))
  copied h = (all-behind r.reads r.most h, ap (λ (y : List ℕ). sets x (to + k) (map low y)) (sym (drop_of_length-le (take g v) h)) ∙ r.left)

  pub copy_done : k ≡ length v → (k ≡ length (take g v)) × (x ≡ sets d to (map low (take g v)))
  copy_done e = copied (value-over r.reads r.most e)

  -- what is left of those that are taken is put behind them
  left_over : take (g - k) (rest_at s i) ≡ drop k (take g v)
  left_over =
      let m = r.most in
      let e : g ≡ k + (g - k) = omega arith in
      let q : drop k (take g v) ≡ take (g - k) (drop k v) =
      ap (λ (n : ℕ). drop k (take n v)) e
      ∙ ap (drop k) (take-add k (g - k) v)
      ∙ drop_at (take k v) (take (g - k) (drop k v)) k (length-take-le k v r.reads.within) in
      ap (take (g - k)) r.reads.rest ∙ sym q

  left-long : k + length (take (g - k) (rest_at s i)) ≡ length (take g v)
  left-long =
      let w = r.reads.within in
      let m = r.most in
      let l : k ≤ length (take g v) = simp length-take (omega arith) in
      omega (arith, ap length left_over, length-drop k (take g v))

  pub copy-room : to + length (take g v) ≤ length d → to + k + length (take (g - k) (rest_at s i)) ≤ length x
  copy-room h = omega (arith, left-long, r.long)

  pub copy-behind : (n : ℕ) (y : List ℕ) → n ≡ length (take (g - k) (rest_at s i)) → y ≡ sets x (to + k) (map low (take (g - k) (rest_at s i)))
      → (k + n ≡ length (take g v)) × (y ≡ sets d to (map low (take g v)))
  copy-behind n y e q = (omega (arith, e, left-long), q ∙ ap (λ (z : List ℕ). sets x (to + k) (map low z)) left_over ∙ r.left)

  pub copy-full : g ≤ k → (k ≡ length (take g v)) × (x ≡ sets d to (map low (take g v)))
  copy-full h = copied (take-full r.reads r.most h)

-- ---- spelling: from the place `at` in a value, put from `to` on, up to e

pub record Spelling (s : List ℕ) (at g : ℕ) (d : List ℕ) (to : ℕ) (x : List ℕ) (i k e : ℕ) : Type 0 where
  pub reads : Reading s (rest_at s at) i k
  pub most : k ≤ g
  pub long : length x ≡ length d
  pub place : place_after s (g - k) i ≡ place_after s g at
  pub ends : e + length (utf8 (drop k (take g (rest_at s at)))) ≡ to + length (utf8 (take g (rest_at s at)))
  pub left : sets x e (utf8 (drop k (take g (rest_at s at)))) ≡ sets d to (utf8 (take g (rest_at s at)))

pub spell-starts : (s : List ℕ) (at g : ℕ) (d : List ℕ) (to : ℕ) → Spelling s at g d to d at 0 to
spell-starts s at g d to = record { reads = rest-starts s at; most = omega arith; long = refl; place = ap (λ (n : ℕ). place_after s n at) (sub-zero g); ends = refl; left = refl }

after_more : (s : List ℕ) (n i c j : ℕ) → step_at s i ≡ Some (c, j) → place_after s (suc n) i ≡ place_after s n j
unfolding place_after onward
after_more s n i c j e = rw e

after-done : (s : List ℕ) (n i : ℕ) → step_at s i ≡ None → place_after s n i ≡ i
unfolding place_after onward
after-done s zero i e = refl
after-done s (suc n) i e = rw e

module _ {s : List ℕ} {at g : ℕ} {d : List ℕ} {to : ℕ} {x : List ℕ} {i k e : ℕ} (r : Spelling s at g d to x i k e) where
  module _ (c j : ℕ) (q : step_at s i ≡ Some (c, j)) (l : k < g) where
    abbrev v : List ℕ
    v = rest_at s at

    more : More s v i k c j
    more = read_more r.reads c j q

    pub next-legal : is_legal c ≡ true
    next-legal = every_first is_legal c (rest_at s j) (ap (every is_legal) (sym (step-more s i c j q).0) ∙ rest-legal s i)

    behind : utf8 (drop k (take g v)) ≡ encoded c ++ utf8 (drop (k + 1) (take g v))
    unfolding utf8
    behind = ap utf8 (front-take more l)

    pub fits : to + length (utf8 (take g v)) ≤ length d → e + width c ≤ length x
    fits h = omega (arith, ap length behind, length-append (encoded c) (utf8 (drop (k + 1) (take g v))), r.ends, r.long)

    -- the bytes of c are put
    pub spell-more : (y : List ℕ) → y ≡ sets x e (encoded c) → Spelling s at g d to y j (k + 1) (e + width c)
    spell-more y p =
        let n : g - k ≡ suc (g - (k + 1)) = omega arith in
        record {
          reads = more.reads;
          most = omega arith;
          long = ap length p ∙ length-sets x e (encoded c) ∙ r.long;
          place = sym (ap (λ (b : ℕ). place_after s b i) n ∙ after_more s (g - (k + 1)) i c j q) ∙ r.place;
          ends = omega (arith, ap length behind, length-append (encoded c) (utf8 (drop (k + 1) (take g v))), r.ends);
          left = ap (λ (z : List ℕ). sets z (e + width c) (utf8 (drop (k + 1) (take g v)))) p ∙ sets-append x e (encoded c) (utf8 (drop (k + 1) (take g v))) ∙ ap (sets x e) (sym behind) ∙ r.left;
        }

  -- a mark is put at once
  module _ (b : ℕ) (q : step_at s i ≡ Some (b, i + 1)) (h : b < 128) (l : k < g) where
    alone : e + width b ≡ e + 1
    alone = ap (λ (n : List ℕ). e + length n) (encoded-one b h)

    pub spell-mark : Spelling s at g d to (set x e b) (i + 1) (k + 1) (e + 1)
    spell-mark = subst (λ (n : ℕ). Spelling s at g d to (set x e b) (i + 1) (k + 1) n) alone (spell-more b (i + 1) q l (set x e b) (ap (sets x e) (sym (encoded-one b h))))

  abbrev Spelt : Type 0
  Spelt = (record { count = k; end = e; next = i } ≡ spelled_of s at g to) × (x ≡ sets d to (utf8 (take g (rest_at s at))))

  spelt : length (take g (rest_at s at)) ≤ k → place_after s g at ≡ i → Spelt
  unfolding spelled_of utf8
  spelt h p =
      let v = rest_at s at in
      let none : drop k (take g v) ≡ [] = drop_of_length-le (take g v) h in
      let n : k ≡ length (take g v) = all-behind r.reads r.most h in
      let f : e ≡ to + length (utf8 (take g v)) = omega (arith, r.ends, ap (λ (y : List ℕ). length (utf8 y)) none) in
      (cc, ap (λ (y : List ℕ). sets x e (utf8 y)) (sym none) ∙ r.left)

  pub spell-done : step_at s i ≡ None → Spelt
  spell-done q = spelt (value-over r.reads r.most (read_done r.reads q)) (sym r.place ∙ after-done s (g - k) i q)

  pub spell-full : g ≤ k → Spelt
  unfolding place_after
  spell-full h = let n : g - k ≡ 0 = omega arith in spelt (take-full r.reads r.most h) (sym r.place ∙ ap (λ (b : ℕ). place_after s b i) n)

-- ---- at most n characters are left

pub exceeds-not : (s : List ℕ) (at : ℕ) {i k : ℕ} → Reading s (rest_at s at) i k → step_at s i ≡ None → (n : ℕ) → k ≤ n → false ≡ ltb n (length (rest_at s at))
exceeds-not s at r e n h = let d = read_done r e in sym (le-ltb n (length (rest_at s at)) (omega arith))

pub exceeds-so : (s : List ℕ) (at : ℕ) {i k : ℕ} → Reading s (rest_at s at) i k → (c j : ℕ) → step_at s i ≡ Some (c, j) → (n : ℕ) → n ≤ k → true ≡ ltb n (length (rest_at s at))
exceeds-so s at r c j e n h = let w = (read_more r c j e).inside in sym (lt-ltb n (length (rest_at s at)) (omega arith))
