-- The value read from the place where a leaf's content begins is the value of the tree's leaf there.
--     text-of-items, value-of-items     whatever reads the elements in it
use Prim.Native.Nat.{ℕ, zero, suc}
use mathlib.Core.Path.{◌≡◌, refl, ap, ◌∙◌}
use mathlib.Core.List.{List, [], ◌++◌}
use native.Mathlib.Omega.{arith}
use Rattle.pieces.specs.Pieces.{piece_at}
use Rattle.pieces.specs.declared.Piece.{Piece}
use Rattle.pieces.specs.declared.Piece.TheVariants.{Text, Note, Child, Close, Bad}
use Rattle.values.specs.Chars.{text_at, chars}
use Rattle.values.specs.Value.{collapsed, value_at}
use Rattle.values.proofs.Adds.{Adds, adds}
use Rattle.markup.specs.Tree.{One, one, none, Held, held, bad, Tag, Forest, text, elem, in_front, child, piece_then, items}
use Rattle.leaves.specs.Leaf.{decoded, leaf_value}

apart : {t : Forest} {k : ℕ} → bad ≡ held t k → ⊥
apart {t} {k} q = let z : ◌≡◌ {A = ℕ} 0 1 = cc in omega arith

is : {t u : Forest} {a c : ℕ} → held t a ≡ held u c → t ≡ u
is q = cc

module _ (s : List ℕ) (el : ℕ → One) where
  -- what is held, up to its end tag or an element
  pub text-of-items : (n i k : ℕ) (t : Forest) → items el s n i ≡ held t k → text_at s i ≡ decoded s t
  unfolding items piece_then child in_front decoded
  text-of-items zero i k t e = absurd (apart e)
  text-of-items (suc n) i k t e = go (text-of-items n) (piece_at s i) (adds s i) e
    where
      Rest : Type 0
      Rest = (j m : ℕ) (u : Forest) → items el s n j ≡ held u m → text_at s j ≡ decoded s u

      more : (j : ℕ) (h : Held) → ((m : ℕ) (u : Forest) → h ≡ held u m → text_at s j ≡ decoded s u) → text_at s i ≡ chars s i j ++ text_at s j → in_front (text i j) h ≡ held t k → text_at s i ≡ decoded s t
      more j (held u m) f a r = a ∙ ap (λ (x : List ℕ). chars s i j ++ x) (f m u refl) ∙ ap (decoded s) (is r)
      more j bad f a r = absurd (apart r)

      kid : text_at s i ≡ [] → (g : Tag) (kids : Forest) (h : Held) → in_front (elem g kids) h ≡ held t k → text_at s i ≡ decoded s t
      kid a g kids (held u m) r = a ∙ ap (decoded s) (is r)
      kid a g kids bad r = absurd (apart r)

      born : text_at s i ≡ [] → (o : One) → child o (items el s n) ≡ held t k → text_at s i ≡ decoded s t
      born a (one g kids j) r = kid a g kids (items el s n j) r
      born a none r = absurd (apart r)

      go : Rest → (p : Piece) → Adds s i p → piece_then el i p (items el s n) ≡ held t k → text_at s i ≡ decoded s t
      go f (Text j) a r = more j (items el s n j) (f j) a r
      go f (Note j) a r = a ∙ f j k t r
      go f Child a r = born a (el i) r
      go f Close a r = a ∙ ap (decoded s) (is r)
      go f Bad a r = absurd (apart r)

  pub value-of-items : (n i k : ℕ) (t : Forest) → items el s n i ≡ held t k → value_at s i ≡ leaf_value s t
  unfolding value_at leaf_value
  value-of-items n i k t e = ap collapsed (text-of-items n i k t e)
