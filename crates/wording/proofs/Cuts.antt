-- A value after one space, and a value cut.
--     plain-short, plain-append            what is cut at 1,800 in all, and what then follows
--     plain-next                           a value put behind it
--     cut-two                              a cut in two: all but three characters, and its end
--     part_none, part-some                 what is put of a value, by whether it is empty
--     part-long                            how long that is
use Prim.Native.Nat.{ℕ, suc, ◌+◌, ◌-◌, ◌≤◌, ◌<◌, min}
use mathlib.Core.Bool.{Bool, true, false}
use mathlib.Core.List.{List, [], ◌∷◌, ◌++◌, append-nil}
use mathlib.Core.Path.{◌≡◌, refl, sym, ap, ◌∙◌}
use native.Mathlib.Decide.{dec_le, dec_lt}
use native.Mathlib.Omega.{arith}
use lib.Dec.{ltb}
use lib.ListN.{length, take, drop, length-append, length-take, length-drop, take-append-drop}
use lib.Seq.{take_all, take-append-le, take-append-add, take-nil}
use borrow.Author.Tests.{le-leb, lt-leb, lt-ltb, le-ltb, ltb-true, ltb-false}
use Rattle.octets.proofs.Sames.{same-is}
use Rattle.octets.specs.Bytes.{same}
use Rattle.octets.specs.Text.{bytes}
use Rattle.wording.proofs.Pens.{PenPut, Penned, pen-first, pen-next, pen-all, pen-count}
use Rattle.wording.specs.Text.{most, plain, empty, after_space, one, cut}
use Rattle.wording.specs.WorkingPen.{start_pen, pen_after, last_of}
use Rattle.wording.specs.declared.Pen.{Pen}

-- ---- empty or not

pub none-long : (v : List ℕ) → empty v ≡ true → length v ≡ 0
none-long v h = ap length (same-is v [] h)

pub some-long : (v : List ℕ) → empty v ≡ false → 0 < length v
unfolding same
some-long [] h = let z : ◌≡◌ {A = ℕ} 0 1 = cc in absurd (omega arith)
some-long (c ∷ v) h = omega arith

pub after-some : (v : List ℕ) → 0 < length v → after_space v ≡ 32 ∷ v
unfolding after_space same
after-some [] h = absurd (omega arith)
after-some (c ∷ v) h = refl

pub one_none : (v : List ℕ) → length v ≡ 0 → one v ≡ 0
unfolding same
one_none [] h = refl
one_none (c ∷ v) h = absurd (omega arith)

pub one-some : (v : List ℕ) → 0 < length v → one v ≡ 1
unfolding same
one-some [] h = absurd (omega arith)
one-some (c ∷ v) h = refl

-- ---- cut at 1,800 in all

pub plain-short : (t : List ℕ) → length (plain t) ≤ 1800
plain-short t = omega (arith, length-take most t)

-- a run behind what is cut gets what that leaves
pub plain-append : (a b : List ℕ) → plain (a ++ b) ≡ plain a ++ take (most - length (plain a)) b
plain-append a b = go (dec_le (length a) most)
  where
    go : Dec (length a ≤ most) → plain (a ++ b) ≡ plain a ++ take (most - length (plain a)) b
    go (yes h) =
        let all = take_all most a h in
        let m : most ≡ length a + (most - length a) = omega arith in
        ap (λ (n : ℕ). take n (a ++ b)) m ∙ take-append-add a b (most - length a) ∙ ap (λ (x : List ℕ). x ++ take (most - length x) b) (sym all)
    go (no h) =
        let full : most - length (plain a) ≡ 0 = omega (arith, length-take most a) in
        take-append-le most a b (omega arith) ∙ sym (append-nil (plain a)) ∙ ap (λ (n : ℕ). plain a ++ take n b) (sym full)

-- a value after one space, put behind what is cut
pub plain-next : (a v : List ℕ) {d x y : List ℕ} {e f : Pen}
    → Penned d start_pen (plain a) x e → PenPut x e (take (most - e.count) (after_space v)) y f → Penned d start_pen (plain (a ++ after_space v)) y f
plain-next a v {d} {e = e} r p =
    let n : e.count ≡ length (plain a) = omega (arith, pen-count start_pen (plain a) r.ends) in
    let t = pen-next r (take (most - e.count) (after_space v)) p in
    pen-first d start_pen (plain (a ++ after_space v)) (pen-all t _ (plain-append a (after_space v) ∙ ap (λ (k : ℕ). plain a ++ take (most - k) (after_space v)) (sym n)))

-- what is left of a value after one space: nothing where the text is full or the value empty

pub spaced-full : (v : List ℕ) (n : ℕ) → n ≡ most → take (most - n) (after_space v) ≡ []
spaced-full v n h = rw h

pub spaced-none : (v : List ℕ) → empty v ≡ true → (n : ℕ) → take n (after_space v) ≡ []
unfolding after_space
spaced-none v h n = rw h (take-nil n)

pub spaced-some : (v : List ℕ) → empty v ≡ false → (n : ℕ) → n < most → take (most - n) (after_space v) ≡ 32 ∷ take (1799 - n) v
spaced-some v h n l =
    let m : most - n ≡ suc (1799 - n) = omega arith in
    ap (λ (k : ℕ). take k (after_space v)) m ∙ ap (take (suc (1799 - n))) (after-some v (some-long v h))

-- by what has been put of it, whether a value is there
module _ (v : List ℕ) (pen : Pen) {e : Pen} (h : e ≡ pen_after pen (take (most - pen.count) (after_space v))) where
  counted : e.count ≡ pen.count + length (take (most - pen.count) (after_space v))
  counted = pen-count pen (take (most - pen.count) (after_space v)) h

  pub value_there : (e.count ≡ pen.count → ⊥) → empty v ≡ false
  value_there k = go (empty v) refl
    where
      go : (b : Bool) → empty v ≡ b → empty v ≡ false
      go true t = absurd (k (omega (arith, counted, ap length (spaced-none v t (most - pen.count)))))
      go false t = t

  pub value-absent : pen.count < most → e.count ≡ pen.count → empty v ≡ true
  value-absent l k = go (empty v) refl
    where
      go : (b : Bool) → empty v ≡ b → empty v ≡ true
      go true t = t
      go false t = absurd (omega (arith, counted, k, ap length (spaced-some v t pen.count l)))

-- nothing of an empty value is put
pub absent-stays : (v : List ℕ) {d vs x y : List ℕ} {pen e f : Pen} → empty v ≡ true
    → Penned d pen vs x e → PenPut x e (take (most - e.count) (after_space v)) y f → Penned d pen vs y f
absent-stays v {d} {vs} {pen = pen} {e = e} h r p =
    let t = pen-next r (take (most - e.count) (after_space v)) p in
    pen-first d pen vs (pen-all t vs (sym (append-nil vs) ∙ ap (λ (w : List ℕ). vs ++ w) (sym (spaced-none v h (most - e.count)))))

-- ---- cut with a mark

cut_fits : (g : ℕ) (v : List ℕ) → length v ≤ g → cut g v ≡ v
unfolding cut
cut_fits g v h = rw (le-leb (length v) g h)

cut-cuts : (g : ℕ) (v : List ℕ) → g < length v → cut g v ≡ take (g - 3) v ++ bytes "***"
unfolding cut
cut-cuts g v h = rw (lt-leb (length v) g h)

-- what is left of it behind all but three characters
last-mark : (v : List ℕ) → 3 < length v → last_of v ≡ bytes "***"
unfolding last_of
last-mark v h = rw (lt-ltb 3 (length v) h)

last-all : (v : List ℕ) → length v ≤ 3 → last_of v ≡ v
unfolding last_of
last-all v h = rw (le-ltb 3 (length v) h)

-- by the test for it
pub last_more : (v : List ℕ) → ltb 3 (length v) ≡ true → last_of v ≡ bytes "***"
last_more v h = last-mark v (ltb-true 3 (length v) h)

pub last-three : (v : List ℕ) → ltb 3 (length v) ≡ false → last_of v ≡ take 3 v
last-three v h = let l = ltb-false 3 (length v) h in last-all v l ∙ sym (take_all 3 v l)

cut-two : (g : ℕ) (v : List ℕ) → (g < length v → 3 ≤ g) → cut g v ≡ take (g - 3) v ++ last_of (drop (g - 3) v)
cut-two g v t = go (dec_lt g (length v))
  where
    go : Dec (g < length v) → cut g v ≡ take (g - 3) v ++ last_of (drop (g - 3) v)
    go (yes h) =
        let three = t h in
        let l : 3 < length (drop (g - 3) v) = omega (arith, length-drop (g - 3) v) in
        cut-cuts g v h ∙ ap (λ (w : List ℕ). take (g - 3) v ++ w) (sym (last-mark (drop (g - 3) v) l))
    go (no h) =
        let l : length (drop (g - 3) v) ≤ 3 = omega (arith, length-drop (g - 3) v) in
        cut_fits g v (omega arith) ∙ sym (take-append-drop (g - 3) v) ∙ ap (λ (w : List ℕ). take (g - 3) v ++ w) (sym (last-all (drop (g - 3) v) l))

-- allotments that leave equally much of a value cut it equally
pub cut-same : (g k : ℕ) (v : List ℕ) → min g (length v) ≡ min k (length v) → cut g v ≡ cut k v
cut-same g k v e = go (dec_lt g (length v))
  where
    go : Dec (g < length v) → cut g v ≡ cut k v
    go (yes h) = let q : g ≡ k = omega arith in ap (λ (m : ℕ). cut m v) q
    go (no h) = cut_fits g v (omega arith) ∙ sym (cut_fits k v (omega arith))

-- ---- a part

-- what is put of a value that is to have at most g characters
abbrev pub part : ℕ → List ℕ → List ℕ
part g v = after_space (cut g v)

pub part_none : (g : ℕ) (v : List ℕ) → length v ≡ 0 → part g v ≡ []
unfolding after_space same
part_none g [] h = ap after_space (cut_fits g [] (omega arith))
part_none g (c ∷ v) h = absurd (omega arith)

part-whole : (g : ℕ) (v : List ℕ) → 0 < length v → length v ≤ g → part g v ≡ 32 ∷ take g v
part-whole g v k h = ap after_space (cut_fits g v h) ∙ after-some v k ∙ ap (λ (x : List ℕ). 32 ∷ x) (sym (take_all g v h))

part_cut : (g : ℕ) (v : List ℕ) → g < length v → part g v ≡ (32 ∷ take (g - 3) v) ++ bytes "***"
unfolding bytes
part_cut g v h =
    ap after_space (cut-cuts g v h) ∙ after-some (take (g - 3) v ++ bytes "***") (omega (arith, length-append (take (g - 3) v) (bytes "***")))

pub part-long : (g : ℕ) (v : List ℕ) → (g < length v → 3 ≤ g) → length (part g v) ≡ one v + min g (length v)
unfolding bytes
part-long g v t = go (dec_lt 0 (length v)) (dec_lt g (length v))
  where
    go : Dec (0 < length v) → Dec (g < length v) → length (part g v) ≡ one v + min g (length v)
    go (no z) b = omega (arith, ap length (part_none g v (omega arith)), one_none v (omega arith))
    go (yes k) (yes h) =
        let three = t h in
        omega (arith, ap length (part_cut g v h), length-append (take (g - 3) v) (bytes "***"), length-take (g - 3) v, one-some v k)
    go (yes k) (no h) =
        let fits : length v ≤ g = omega arith in
        omega (arith, ap length (part-whole g v k fits), length-take g v, one-some v k)

-- a space and all but three characters, and the end
pub part-some : (g n : ℕ) (v : List ℕ) → (g < length v → 3 ≤ g) → empty v ≡ false → n ≡ g - 3 → part g v ≡ (32 ∷ take n v) ++ last_of (drop n v)
unfolding bytes
part-some g n v t h e =
    let two : cut g v ≡ take n v ++ last_of (drop n v) = rw e (cut-two g v t) in
    ap after_space two ∙ after-some (take n v ++ last_of (drop n v)) (some (dec_lt 3 (length (drop n v))) (some-long v h))
  where
    some : Dec (3 < length (drop n v)) → 0 < length v → 0 < length (take n v ++ last_of (drop n v))
    some (yes l) k = omega (arith, length-append (take n v) (last_of (drop n v)), ap length (last-mark (drop n v) l))
    some (no l) k =
        let m : length (drop n v) ≤ 3 = omega arith in
        omega (arith, length-append (take n v) (last_of (drop n v)), ap length (last-all (drop n v) m), length-take n v, length-drop n v)
