-- The characters of a text, place by place.
--     next-goes                            what stands at a place goes forward and stays inside
--     along                                a fact of every place, from what stands there and the fact of where that ends
--     fold-char, fold_over, fold-last      a fold, by what stands at its place
--     byte_next, char-next, char-met, tag-next, no_note      what stands at a place, by its byte
use Prim.Native.Nat.{ℕ, zero, suc, ◌+◌, ◌<◌, ◌≤◌}
use mathlib.Core.Path.{◌≡◌, refl, sym, ap, ap₂, ◌∙◌}
use mathlib.Core.Bool.{Bool, true, false}
use mathlib.Core.List.{List}
use native.Mathlib.Omega.{arith}
use lib.ListN.{length, get_or-eq_default}
use lib.Dec.{eqb}
use borrow.Author.Tests.{eqb-true, ne_eqb}
use Rattle.octets.specs.Bytes.{pick, every, between, one_of, byte_at, stands}
use Rattle.octets.specs.Text.{bytes}
use Rattle.characters.specs.Utf8.{is_legal, width, scalar_at, is_single}
use Rattle.characters.proofs.Places.{stands-for, single-is, single-width}
use Rattle.characters.proofs.Chars.{scalar-past}
use Rattle.characters.proofs.Forms.{byte-in}
use Rattle.pieces.specs.Classes.{is_plain}
use Rattle.pieces.specs.Pieces.{note_at, char_at}
use Rattle.std.specs.Prelude.{Option, Some, None}
use Rattle.pieces.proofs.Goes.{Goes, PastGoes, RefGoes, note-goes, char-goes}
use Rattle.pieces.proofs.Inside.{plain-no-reference, none-plain, plain-steps}
use Rattle.values.specs.Chars.{met, passed, next_at, turn, fold, fold_at}
use Rattle.values.specs.declared.Next.{Next}
use Rattle.values.specs.declared.Next.TheVariants.{Char, Over, Last}

-- ---- what stands at a place

abbrev pub NextGoes : List ℕ → ℕ → Next → Type 0
NextGoes s i (Char c j) = Goes s i j
NextGoes s i (Over j) = Goes s i j
NextGoes s i Last = Unit {0}

met-goes : (s : List ℕ) (i : ℕ) (r : Option (ℕ × ℕ)) → RefGoes s i r → NextGoes s i (met r)
unfolding met
met-goes s i (Some (c, j)) g = g
met-goes s i None g = tt

passed-goes : (s : List ℕ) (i : ℕ) (e : Option ℕ) → PastGoes s i e → NextGoes s i (passed e)
unfolding passed
passed-goes s i (Some j) g = g
passed-goes s i None g = tt

pub next-goes : (s : List ℕ) (i : ℕ) → NextGoes s i (next_at s i)
unfolding next_at
next-goes s i = go (eqb (byte_at s i) 60)
  where
    go : (b : Bool) → NextGoes s i (pick b (passed (note_at s i)) (met (char_at s i)))
    go true = passed-goes s i (note_at s i) (note-goes s i)
    go false = met-goes s i (char_at s i) (char-goes s i)

pub char-forth : (s : List ℕ) (i c j : ℕ) → next_at s i ≡ Char c j → Goes s i j
char-forth s i c j e = rw e at (next-goes s i)

pub over-forth : (s : List ℕ) (i j : ℕ) → next_at s i ≡ Over j → Goes s i j
over-forth s i j e = rw e at (next-goes s i)

-- nothing stands past the end
pub next_past : (s : List ℕ) (i : ℕ) → length s ≤ i → next_at s i ≡ Last
unfolding next_at met char_at
next_past s i h = let e : byte_at s i ≡ 0 = get_or-eq_default s 0 h in rw (e, scalar-past s i h, none-plain)

module _ (s : List ℕ) (i : ℕ) where
  tag-wrong : eqb (byte_at s i) 60 ≡ true → char_at s i ≡ None
  unfolding char_at is_plain is_single is_legal between every one_of
  tag-wrong h = let e : scalar_at s i ≡ 60 = stands-for s i 60 refl (eqb-true (byte_at s i) 60 h) in rw e

  -- a character that pieces reads
  pub char-next : (c j : ℕ) → char_at s i ≡ Some (c, j) → next_at s i ≡ Char c j
  unfolding next_at met
  char-next c j q = go (eqb (byte_at s i) 60) refl
    where
      go : (b : Bool) → eqb (byte_at s i) 60 ≡ b → pick b (passed (note_at s i)) (met (char_at s i)) ≡ Char c j
      go true h = let z : ◌≡◌ {A = ℕ} 0 1 = cc (tag-wrong h) in absurd (omega arith)
      go false h = rw q

  -- a character that stands for itself
  pub plain-char : is_plain (scalar_at s i) ≡ true → char_at s i ≡ Some (scalar_at s i, i + width (scalar_at s i))
  unfolding char_at
  plain-char h = rw (ne_eqb (scalar_at s i) 38 (plain-no-reference (scalar_at s i) h), h)

  -- and one of a single byte
  pub byte_next : is_single (byte_at s i) ≡ true → is_plain (byte_at s i) ≡ true → next_at s i ≡ Char (byte_at s i) (i + 1)
  byte_next b h =
      let e = single-is s i b in
      let p : is_plain (scalar_at s i) ≡ true = ap is_plain e ∙ h in
      let w : i + width (scalar_at s i) ≡ i + 1 = ap (λ (n : ℕ). i + n) (sym (plain-steps s i p).is ∙ single-width s i b) in
      char-next (byte_at s i) (i + 1) (plain-char p ∙ ap₂ (λ (c j : ℕ). Some (c, j)) e w)

  pub char-met : eqb (byte_at s i) 60 ≡ false → next_at s i ≡ met (char_at s i)
  unfolding next_at
  char-met h = rw h

  -- a tag is a comment or the end
  pub tag-next : eqb (byte_at s i) 60 ≡ true → (e : Option ℕ) → note_at s i ≡ e → next_at s i ≡ passed e
  unfolding next_at
  tag-next h e q = rw (h, q)

  -- which its second byte may tell
  pub no_note : (byte_at s (i + 1) ≡ 33 → ⊥) → note_at s i ≡ None
  unfolding note_at bytes
  no_note n = go (stands t s i) refl
    where
      t : List ℕ
      t = bytes "<!--"

      go : (b : Bool) → stands t s i ≡ b → note_at s i ≡ None
      go true e = absurd (n (byte-in t s i 1 e (omega arith)))
      go false e = rw e

-- ---- all places

module _ (s : List ℕ) where
  module _ (P : ℕ → Type 0) (last : (i : ℕ) → next_at s i ≡ Last → P i)
      (over : (i j : ℕ) → next_at s i ≡ Over j → P j → P i)
      (char : (i c j : ℕ) → next_at s i ≡ Char c j → P j → P i) where
    along-from : (n i : ℕ) → length s < i + n → P i
    along-from zero i h = last i (next_past s i (omega arith))
    along-from (suc n) i h = go (next_at s i) refl (next-goes s i) (along-from n)
      where
        go : (x : Next) → next_at s i ≡ x → NextGoes s i x → ((j : ℕ) → length s < j + n → P j) → P i
        go (Char c j) e g f = let k = g.on in char i c j e (f j (omega arith))
        go (Over j) e g f = let k = g.on in over i j e (f j (omega arith))
        go Last e g f = last i e

    pub along : (i : ℕ) → P i
    along i = along-from (suc (length s)) i (omega arith)

  module _ {A : Type 0} (one : ℕ → ℕ → ℕ → A → A) (none : A) where
    fold-past : (n i : ℕ) → length s ≤ i → fold one none s n i ≡ none
    unfolding fold turn
    fold-past zero i h = refl
    fold-past (suc n) i h = rw (next_past s i h)

    fold_same : (n m i : ℕ) → length s < i + n → length s < i + m → fold one none s n i ≡ fold one none s m i
    unfolding fold turn
    fold_same zero m i h k = sym (fold-past m i (omega arith))
    fold_same (suc n) zero i h k = fold-past (suc n) i (omega arith)
    fold_same (suc n) (suc m) i h k = go (next_at s i) (next-goes s i) (fold_same n m)
      where
        go : (x : Next) → NextGoes s i x → ((j : ℕ) → length s < j + n → length s < j + m → fold one none s n j ≡ fold one none s m j)
            → turn one none i x (fold one none s n) ≡ turn one none i x (fold one none s m)
        go (Char c j) g f = let l = g.on in ap (one i c j) (f j (omega arith) (omega arith))
        go (Over j) g f = let l = g.on in f j (omega arith) (omega arith)
        go Last g f = refl

    pub fold-char : (i c j : ℕ) → next_at s i ≡ Char c j → fold_at one none s i ≡ one i c j (fold_at one none s j)
    unfolding fold turn
    fold-char i c j e =
        let l = (char-forth s i c j e).on in
        let q : fold_at one none s i ≡ one i c j (fold one none s (length s) j) = rw e in
        q ∙ ap (one i c j) (fold_same (length s) (suc (length s)) j (omega arith) (omega arith))

    pub fold_over : (i j : ℕ) → next_at s i ≡ Over j → fold_at one none s i ≡ fold_at one none s j
    unfolding fold turn
    fold_over i j e =
        let l = (over-forth s i j e).on in
        let q : fold_at one none s i ≡ fold one none s (length s) j = rw e in
        q ∙ fold_same (length s) (suc (length s)) j (omega arith) (omega arith)

    pub fold-last : (i : ℕ) → next_at s i ≡ Last → fold_at one none s i ≡ none
    unfolding fold turn
    fold-last i e = rw e
