-- What the tests of a field and of a record answer, one after the other. n bytes of the field f stand before its first zero byte.
--     value-bad, rest-decides          a zero-filled field
--     body-none, body-some             what is read in one that is to be a header
--     stamp-told                       a header, zero-filled, whose JJJHHMM is that of sent
--     third-decides, third-not-asked   three tests, asked one after the other
--     year-out, day-told               a header with its year
use Prim.Native.Nat.{ℕ, ◌-◌, ◌≤◌, ◌<◌}
use mathlib.Core.Bool.{Bool, true, false, ◌&&◌, true≢false}
use mathlib.Core.List.{List, [], ◌∷◌}
use mathlib.Core.Path.{◌≡◌, refl, sym, ap, ◌∙◌}
use native.Mathlib.Omega.{arith}
use borrow.Author.Tests.{eqb-true, eq-eqb}
use lib.Dec.{leb, eqb}
use lib.ListN.{length, take, drop, length-drop}
use lib.Seq.{take_all}
use Rattle.std.specs.Prelude.{Option, Some, None}
use Rattle.std.specs.Bool.{then_some}
use Rattle.std.specs.Ordering.{is_le, nat_cmp}
use Rattle.std.proofs.lemmas.Bool.Decides.{nat_tests}
use Rattle.octets.specs.Bytes.{pick, every, holds, between, same}
use Rattle.octets.proofs.Tests.{and_left, and_right, each_of, every_of, one-fails, between_is, between-low, between-high, never}
use Rattle.octets.proofs.Everys.{last-decides}
use Rattle.clock.specs.Calendar.{year_days}
use Rattle.clock.specs.Time.{span}
use Rattle.clock.specs.Stamp.{stamped}
use Rattle.parts.specs.declared.Body.{Body}
use Rattle.header.specs.Body.{body_form, body_of, read_body_of}
use Rattle.header.specs.declared.BodyRead.{BodyRead}
use Rattle.header.proofs.Reading.{body-zero, body-other}
use Rattle.fields.proofs.Partings.{up_to-take, up_to-short}
use Rattle.records.specs.Record.{header_of, year_in, zeros, filled_in, filled_tests, zero_filled, header_ok, body_in, stamp_in, dated_tests, dated_ok}
use Rattle.records.proofs.Stamps.{on, stamp-is}

module _ (f : List ℕ) (n : ℕ) (e : n ≡ length (filled_in f)) where
  pub inside : n ≤ length f
  inside = omega (arith, up_to-short 0 f)

  pub value-is : take n f ≡ filled_in f
  value-is = ap (λ (k : ℕ). take k f) e ∙ up_to-take 0 f

  pub length-front : n ≡ length (take n f)
  length-front = e ∙ ap length (sym value-is)

  rest-is : take (length f - n) (drop n f) ≡ drop (length (filled_in f)) f
  rest-is = take_all (length f - n) (drop n f) (simp length-drop (omega arith)) ∙ ap (λ (k : ℕ). drop k f) e

  module _ (ok : List ℕ → Bool) where
    pub value-bad : ok (take n f) ≡ false → zero_filled ok f ≡ false
    unfolding zero_filled
    value-bad h = one-fails 0 (filled_tests ok f) (sym (ap ok value-is) ∙ h)

    pub rest-decides : ok (take n f) ≡ true → (b : Bool) → b ≡ zeros (take (length f - n) (drop n f)) → b ≡ zero_filled ok f
    unfolding zero_filled
    rest-decides h b z = z ∙ ap zeros rest-is ∙ sym (last-decides (ok (filled_in f) ∷ []) (zeros (drop (length (filled_in f)) f)) (sym (ap ok value-is) ∙ h, tt))

  -- the header that is read in it
  module _ (z : Bool) (zs : z ≡ zeros (take (length f - n) (drop n f))) where
    zeros-told : zeros (drop (length (filled_in f)) f) ≡ z
    zeros-told = sym (zs ∙ ap zeros rest-is)

    pub body-none : z ≡ false → None ≡ body_in f
    unfolding body_in header_ok zero_filled
    body-none h = rw (one-fails 1 (filled_tests body_form f) (zeros-told ∙ h))

    pub body-some : z ≡ true → (read : BodyRead) → read ≡ read_body_of (take n f) → then_some (eqb read.number 0) read.body ≡ body_in f
    unfolding body_in header_ok zero_filled
    body-some h read r = go (eqb read.number 0) refl
      where
        is : read ≡ read_body_of (filled_in f)
        is = r ∙ ap read_body_of value-is

        go : (b : Bool) → eqb read.number 0 ≡ b → then_some b read.body ≡ pick (every holds (filled_tests body_form f)) (Some (body_of (filled_in f))) None
        go true e =
            let b = body-zero (filled_in f) (sym (ap (λ (x : BodyRead). x.number) is) ∙ eqb-true _ _ e) in
            rw (every_of (filled_tests body_form f) (b.0, (zeros-told ∙ h, tt))) (ap Some (ap (λ (x : BodyRead). x.body) is ∙ b.1))
        go false e = rw (one-fails 0 (filled_tests body_form f) (body-other (filled_in f) (λ o. let t = eq-eqb read.number 0 (ap (λ (x : BodyRead). x.number) is ∙ o) in true≢false (sym t ∙ e))))

-- ---- a header, zero-filled, from what is read in it

module _ (f : List ℕ) where
  header-some : (body : Body) → Some body ≡ body_in f → (header_ok f ≡ true) × (body ≡ body_of (filled_in f))
  unfolding body_in
  header-some body = go (header_ok f) refl
    where
      go : (b : Bool) → header_ok f ≡ b → Some body ≡ pick b (Some (body_of (filled_in f))) None → (header_ok f ≡ true) × (body ≡ body_of (filled_in f))
      go true e h = (e, cc)
      go false e h = absurd (let q : Some body ≡ None = h in cc)

  header-none : None ≡ body_in f → header_ok f ≡ false
  unfolding body_in
  header-none = go (header_ok f)
    where
      go : (b : Bool) → None ≡ pick b (Some (body_of (filled_in f))) None → b ≡ false
      go true h = absurd (let q : None ≡ Some (body_of (filled_in f)) = h in cc)
      go false h = refl

  -- whose JJJHHMM is that of sent
  module _ (sent : ℕ) (low : sent < span) where
    header-not : None ≡ body_in f → every holds (header_ok f ∷ same (stamp_in f) (stamped sent) ∷ []) ≡ false
    header-not h = one-fails 0 (header_ok f ∷ same (stamp_in f) (stamped sent) ∷ []) (header-none h)

    stamp-decides : (body : Body) → Some body ≡ body_in f → (t : Bool) → t ≡ every holds (on body sent) → t ≡ every holds (header_ok f ∷ same (stamp_in f) (stamped sent) ∷ [])
    unfolding stamp_in header_ok zero_filled
    stamp-decides body s t h =
        let d = header-some body s in
        let form = (each_of (filled_tests body_form f) d.0).0 in
        h ∙ ap (λ (b : Body). every holds (on b sent)) d.1 ∙ sym (stamp-is (filled_in f) sent form low)
        ∙ sym (last-decides (header_ok f ∷ []) (same (stamp_in f) (stamped sent)) (d.0, tt))

    pub stamp-told : (o : Option Body) → o ≡ body_in f → (t : Bool) → (o ≡ None → t ≡ false) → ((body : Body) → o ≡ Some body → t ≡ every holds (on body sent)) → t ≡ every holds (header_ok f ∷ same (stamp_in f) (stamped sent) ∷ [])
    stamp-told None is t none some = none refl ∙ sym (header-not is)
    stamp-told (Some body) is t none some = stamp-decides body is t (some body refl)

-- ---- tests asked one after the other, as `a && b && c` asks them: v is what the first two say

module _ (a b v : Bool) where
  pub asked : a ≡ true → v ≡ b → v ≡ (a && b)
  asked h e = e ∙ rw h

  pub not-asked : a ≡ false → v ≡ false → v ≡ (a && b)
  not-asked h e = e ∙ rw h

  module _ (is : v ≡ (a && b)) where
    pub third-decides : v ≡ true → (c : Bool) → c ≡ every holds (a ∷ b ∷ c ∷ [])
    third-decides h c =
        let t : (a && b) ≡ true = sym is ∙ h in
        sym (last-decides (a ∷ b ∷ []) c (and_left a b t, (and_right a b t, tt)))

    pub third-not-asked : v ≡ false → (c : Bool) → v ≡ every holds (a ∷ b ∷ c ∷ [])
    unfolding every
    third-not-asked h c = h ∙ go a b (sym is ∙ h)
      where
        go : (x y : Bool) → (x && y) ≡ false → false ≡ every holds (x ∷ y ∷ c ∷ [])
        go true true e = absurd (true≢false e)
        go true false e = refl
        go false y e = refl

-- ---- a notice: its key, its header with JJJHHMM, its last bytes

pub header-in-two : (k h s z : Bool) → every holds (k ∷ every holds (h ∷ s ∷ []) ∷ z ∷ []) ≡ every holds (k ∷ h ∷ s ∷ z ∷ [])
unfolding every
header-in-two k true true z = refl
header-in-two k true false z = refl
header-in-two k false s z = refl

-- ---- a header with its year

pub not-within : (lo hi y : ℕ) → (is_le (nat_cmp lo y) && is_le (nat_cmp y hi)) ≡ false → between lo hi y ≡ false
not-within lo hi y h =
    never (between lo hi y) (λ e.
    let l = between-low lo hi y e in
    let k = between-high lo hi y e in
    true≢false (sym (both-true _ _ (le-is lo y l) (le-is y hi k)) ∙ h))
  where
    le-is : (a b : ℕ) → a ≤ b → is_le (nat_cmp a b) ≡ true
    le-is a b h = grind (arith, nat_tests)

    both-true : (a b : Bool) → a ≡ true → b ≡ true → (a && b) ≡ true
    both-true a b h k = rw (h, k)

module _ (g : List ℕ) where
  dated-not : None ≡ body_in (header_of g) → false ≡ dated_ok g
  unfolding dated_ok
  dated-not h = sym (one-fails 0 (dated_tests g) (header-none (header_of g) h))

  module _ (y : ℕ) (e : y ≡ year_in g) where
    day-decides : (body : Body) → Some body ≡ body_in (header_of g) → 2000 ≤ y → y ≤ 2099 → leb body.day (year_days y) ≡ dated_ok g
    unfolding dated_ok
    day-decides body s lo hi =
        let d = header-some (header_of g) body s in
        (λ i. leb (d.1 i).day (year_days (e i)))
        ∙ sym (last-decides (header_ok (header_of g) ∷ between 2000 2099 (year_in g) ∷ []) (leb (body_of (filled_in (header_of g))).day (year_days (year_in g))) (d.0, (ap (between 2000 2099) (sym e) ∙ between_is 2000 2099 y lo hi, tt)))

    pub day-told : (o : Option Body) → o ≡ body_in (header_of g) → 2000 ≤ y → y ≤ 2099 → (t : Bool) → (o ≡ None → t ≡ false) → ((body : Body) → o ≡ Some body → t ≡ leb body.day (year_days y)) → t ≡ dated_ok g
    day-told None is lo hi t none some = none refl ∙ dated-not is
    day-told (Some body) is lo hi t none some = some body refl ∙ day-decides body is lo hi

    pub year-out : between 2000 2099 y ≡ false → false ≡ dated_ok g
    unfolding dated_ok
    year-out h = sym (one-fails 1 (dated_tests g) (ap (between 2000 2099) (sym e) ∙ h))
