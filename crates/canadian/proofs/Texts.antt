-- The text as it is put: the broadcast text b, or description d and instruction i.
--     put_whole, put-none, put_both      by what was put of b and of d
--     long-some, long-none               whether there is a text, by how long it is
--     text-short, text-bytes             it has at most 1,800 characters, and at most 7,200 bytes
use Prim.Native.Nat.{ℕ, ◌-◌, ◌≤◌}
use mathlib.Core.Path.{◌≡◌, refl, sym, ap, ◌∙◌}
use mathlib.Core.Bool.{Bool, true, false}
use mathlib.Core.List.{List, [], ◌++◌}
use native.Mathlib.Omega.{arith}
use lib.ListN.{length, take, length-take, length-append}
use lib.Seq.{sets}
use Rattle.octets.specs.Bytes.{pick}
use Rattle.octets.proofs.Sames.{same-is}
use Rattle.characters.specs.Utf8.{utf8}
use Rattle.characters.proofs.Texts.{utf8-least}
use Rattle.wording.specs.Text.{most, plain, empty, after_space}
use Rattle.wording.specs.WorkingPen.{start_pen}
use Rattle.wording.specs.declared.Pen.{Pen}
use Rattle.wording.proofs.Cuts.{plain-short, plain-next, none-long, some-long}
use Rattle.wording.proofs.Pens.{PenPut, pen-count, pen-first, bytes_le}
use Rattle.wording.proofs.Texts.{pen-start}
use Rattle.canadian.specs.Canadian.{canadian_text}
use Rattle.canadian.specs.WorkingCanadian.{lacks_words, text_given}

-- ---- a value by what was put of it

put_some : (v : List ℕ) → (length (plain v) ≡ 0 → ⊥) → empty v ≡ false
put_some v h = go (empty v) refl
  where
    go : (b : Bool) → empty v ≡ b → empty v ≡ false
    go true e = absurd (h (omega (arith, none-long v e, length-take most v)))
    go false e = e

put-empty : (v : List ℕ) → length (plain v) ≡ 0 → empty v ≡ true
put-empty v h = go (empty v) refl
  where
    go : (b : Bool) → empty v ≡ b → empty v ≡ true
    go true e = e
    go false e = absurd (omega (arith, h, some-long v e, length-take most v))

-- ---- the text

abbrev pub Puts : List ℕ → List ℕ → List ℕ → ℕ → Type 0
Puts d t x r = (r ≡ length (utf8 t)) × (x ≡ sets d 0 (utf8 t))

module _ (b d i : List ℕ) where
  whole : empty b ≡ false → text_given b d i ≡ plain b
  unfolding text_given canadian_text
  whole h = rw h

  both : empty b ≡ true → empty d ≡ false → text_given b d i ≡ plain (d ++ after_space i)
  unfolding text_given canadian_text
  both h k = rw (h, k)

  none : empty b ≡ true → empty d ≡ true → text_given b d i ≡ []
  unfolding text_given
  none h k = rw (h, k)

  module _ (o : List ℕ) {x : List ℕ} {n : Pen} (put : PenPut o start_pen (plain b) x n) where
    pub put_whole : (n.count ≡ 0 → ⊥) → Puts o (text_given b d i) x n.at
    put_whole h = pen-start (pen-first o start_pen (plain b) put) _ (whole (put_some b (λ e. h (omega (arith, pen-count start_pen (plain b) put.0, e)))))

    -- nothing of b was put, and the output is as it was
    lacks : n.count ≡ 0 → empty b ≡ true
    lacks h = put-empty b (omega (arith, pen-count start_pen (plain b) put.0, h))

    stays : n.count ≡ 0 → x ≡ o
    unfolding utf8
    stays h = put.1 ∙ ap (λ (v : List ℕ). sets o 0 (utf8 (plain v))) (same-is b [] (lacks h))

    module _ {y : List ℕ} {m : Pen} (no : n.count ≡ 0) (next : PenPut x start_pen (plain d) y m) where
      pub put-none : m.count ≡ 0 → Puts o (text_given b d i) y 0
      unfolding utf8
      put-none h =
          let e = put-empty d (omega (arith, pen-count start_pen (plain d) next.0, h)) in
          rw (none (lacks no) e) (refl, next.1 ∙ ap (λ (v : List ℕ). sets x 0 (utf8 (plain v))) (same-is d [] e) ∙ stays no)

      pub put_both : {z : List ℕ} {r : Pen} → (m.count ≡ 0 → ⊥) → PenPut y m (take (most - m.count) (after_space i)) z r → Puts o (text_given b d i) z r.at
      put_both h last =
          let begun = pen-first o start_pen (plain d) (next.0, next.1 ∙ ap (λ (l : List ℕ). sets l 0 (utf8 (plain d))) (stays no)) in
          pen-start (plain-next d i begun last) _ (both (lacks no) (put_some d (λ e. h (omega (arith, pen-count start_pen (plain d) next.0, e)))))

  -- ---- whether there is one

  pub long-some : (length (utf8 (text_given b d i)) ≡ 0 → ⊥) → lacks_words b d ≡ false
  unfolding text_given utf8
  long-some h = go (lacks_words b d) refl
    where
      go : (c : Bool) → lacks_words b d ≡ c → lacks_words b d ≡ false
      go true e = absurd (h (rw e))
      go false e = e

  pub long-none : length (utf8 (text_given b d i)) ≡ 0 → lacks_words b d ≡ true
  long-none h = go (empty b) refl (empty d) refl
    where
      text-none : length (text_given b d i) ≡ 0
      text-none = omega (arith, h, utf8-least (text_given b d i))

      go : (p : Bool) → empty b ≡ p → (q : Bool) → empty d ≡ q → lacks_words b d ≡ true
      go false e q f = absurd (omega (arith, ap length (sym (whole e)) ∙ text-none, some-long b e, length-take most b))
      go true e true f = rw (e, f)
      go true e false f =
          absurd (omega (arith, ap length (sym (both e f)) ∙ text-none, some-long d f, length-take most (d ++ after_space i), length-append d (after_space i)))

-- what was said once is so here: a text has at most 1,800 characters
pub text-short : (b d i : List ℕ) → length (canadian_text b d i) ≤ 1800
unfolding canadian_text
text-short b d i = plain-short (pick (empty b) (d ++ after_space i) b)

pub text-bytes : (b d i : List ℕ) → length (utf8 (canadian_text b d i)) ≤ 7200
text-bytes b d i = bytes_le (canadian_text b d i) (text-short b d i)
