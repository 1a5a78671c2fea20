-- The references by name: the first of the five that stands there, by the byte behind the `&`.
--     by-l, by-g, by-q, by-a   the only ones whose name begins so
--     by-none, by-start        there is none, by another byte there, or where no `&` stands
use mathlib.Core.Path.{◌≡◌, refl, sym, ap, ◌∙◌}
use mathlib.Core.Bool.{Bool, true, false}
use mathlib.Core.List.{List, ◌∷◌}
use Prim.Native.Nat.{ℕ, ◌+◌}
use native.Mathlib.Omega.{arith}
use lib.ListN.{length}
use Rattle.std.specs.Prelude.{Option, Some, None, MatchOption}
use Rattle.octets.specs.Bytes.{pick, byte_at, stands}
use Rattle.octets.specs.Text.{bytes}
use Rattle.pieces.specs.Pieces.{entity, worded_at}
use Rattle.pieces.proofs.Words.{second-not, begins-not}

abbrev Found : Type 0
Found = Option (ℕ × ℕ)

abbrev pub first : Found → Found → Found
first (Some x) r = Some x
first None r = r

-- what `or_else` gives, if its closure gives r
pub or-first : (x y r : Found) (P : Type 0) → MatchOption x P (λ v. y ≡ Some v) → (P → y ≡ r) → y ≡ first x r
or-first (Some v) y r P m f = m
or-first None y r P m f = f m

entity-first : (w : List ℕ) (b : ℕ) (s : List ℕ) (i : ℕ) (r : Found) → entity w b s i r ≡ first (entity w b s i None) r
entity-first w b s i r = go (stands w s i)
  where
    go : (t : Bool) → pick t (Some (b, i + length w)) r ≡ first (pick t (Some (b, i + length w)) None) r
    go true = refl
    go false = refl

-- a reference that does not stand leaves the answer to the next
skip : (w : List ℕ) (b : ℕ) (s : List ℕ) (i : ℕ) (r : Found) → stands w s i ≡ false → entity w b s i r ≡ r
skip w b s i r h = ap (λ (t : Bool). pick t (Some (b, i + length w)) r) h

module _ (s : List ℕ) (i : ℕ) where
  abbrev pub one : List ℕ → ℕ → Found
  one w b = entity w b s i None

  abbrev next : ℕ
  next = byte_at s (i + 1)

  no-lt : (r : Found) → (next ≡ 108 → ⊥) → entity (bytes "&lt;") 60 s i r ≡ r
  unfolding bytes
  no-lt r h = skip (bytes "&lt;") 60 s i r (second-not 38 108 (bytes "t;") s i h)

  no-gt : (r : Found) → (next ≡ 103 → ⊥) → entity (bytes "&gt;") 62 s i r ≡ r
  unfolding bytes
  no-gt r h = skip (bytes "&gt;") 62 s i r (second-not 38 103 (bytes "t;") s i h)

  no-amp : (r : Found) → (next ≡ 97 → ⊥) → entity (bytes "&amp;") 38 s i r ≡ r
  unfolding bytes
  no-amp r h = skip (bytes "&amp;") 38 s i r (second-not 38 97 (bytes "mp;") s i h)

  no-quot : (r : Found) → (next ≡ 113 → ⊥) → entity (bytes "&quot;") 34 s i r ≡ r
  unfolding bytes
  no-quot r h = skip (bytes "&quot;") 34 s i r (second-not 38 113 (bytes "uot;") s i h)

  no-apos : (r : Found) → (next ≡ 97 → ⊥) → entity (bytes "&apos;") 39 s i r ≡ r
  unfolding bytes
  no-apos r h = skip (bytes "&apos;") 39 s i r (second-not 38 97 (bytes "pos;") s i h)

  abbrev in-quot : Found
  in-quot = entity (bytes "&quot;") 34 s i (one (bytes "&apos;") 39)

  abbrev in-amp : Found
  in-amp = entity (bytes "&amp;") 38 s i in-quot

  -- neither `&amp;` nor what is tried behind it
  past-amp : (next ≡ 97 → ⊥) → (next ≡ 113 → ⊥) → in-amp ≡ None
  past-amp a q = no-amp in-quot a ∙ no-quot (one (bytes "&apos;") 39) q ∙ no-apos None a

  pub by-l : next ≡ 108 → one (bytes "&lt;") 60 ≡ worded_at s i
  unfolding worded_at
  by-l e = ap (entity (bytes "&lt;") 60 s i) (sym (no-gt in-amp (λ h. omega arith) ∙ past-amp (λ h. omega arith) (λ h. omega arith)))

  pub by-g : next ≡ 103 → one (bytes "&gt;") 62 ≡ worded_at s i
  unfolding worded_at
  by-g e =
      ap (entity (bytes "&gt;") 62 s i) (sym (past-amp (λ h. omega arith) (λ h. omega arith)))
      ∙ sym (no-lt (entity (bytes "&gt;") 62 s i in-amp) (λ h. omega arith))

  pub by-q : next ≡ 113 → one (bytes "&quot;") 34 ≡ worded_at s i
  unfolding worded_at
  by-q e =
      ap (entity (bytes "&quot;") 34 s i) (sym (no-apos None (λ h. omega arith)))
      ∙ sym (no-lt (entity (bytes "&gt;") 62 s i in-amp) (λ h. omega arith) ∙ no-gt in-amp (λ h. omega arith) ∙ no-amp in-quot (λ h. omega arith))

  pub by-a : next ≡ 97 → first (one (bytes "&amp;") 38) (one (bytes "&apos;") 39) ≡ worded_at s i
  unfolding worded_at
  by-a e =
      sym (entity-first (bytes "&amp;") 38 s i (one (bytes "&apos;") 39))
      ∙ ap (entity (bytes "&amp;") 38 s i) (sym (no-quot (one (bytes "&apos;") 39) (λ h. omega arith)))
      ∙ sym (no-lt (entity (bytes "&gt;") 62 s i in-amp) (λ h. omega arith) ∙ no-gt in-amp (λ h. omega arith))

  pub by-none : (next ≡ 108 → ⊥) → (next ≡ 103 → ⊥) → (next ≡ 113 → ⊥) → (next ≡ 97 → ⊥) → None ≡ worded_at s i
  unfolding worded_at
  by-none l g q a = sym (no-lt (entity (bytes "&gt;") 62 s i in-amp) l ∙ no-gt in-amp g ∙ past-amp a q)

  pub by-start : (byte_at s i ≡ 38 → ⊥) → None ≡ worded_at s i
  unfolding worded_at bytes
  by-start h =
      let skipped = λ (t : List ℕ) (b : ℕ) (r : Found). skip (38 ∷ t) b s i r (begins-not 38 t s i h) in
      sym (skipped (bytes "lt;") 60 _ ∙ skipped (bytes "gt;") 62 _ ∙ skipped (bytes "amp;") 38 _ ∙ skipped (bytes "quot;") 34 _ ∙ skipped (bytes "apos;") 39 None)
