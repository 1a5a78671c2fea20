-- The pass over the message reads the tree: the loop of `read_content`, and `read_element` on each of its ways.
use Prim.Native.Nat.{ℕ, suc, ◌+◌}
use mathlib.Core.Path.{◌≡◌, refl, sym, ap, ◌∙◌}
use mathlib.Core.List.{List}
use mathlib.Core.Logic.{◌⊎◌, inl, inr}
use lib.ListN.{length}
use borrow.Author.Tests.{eq-eqb}
use Rattle.pieces.specs.Pieces.{piece_at}
use Rattle.std.specs.Prelude.{Option, Some, None}
use Rattle.pieces.specs.declared.Piece.{Piece}
use Rattle.pieces.specs.declared.Piece.TheVariants.{Text, Note, Child, Close, Bad}
use Rattle.pieces.proofs.Goes.{Goes, piece-text, piece-note}
use Rattle.pieces.proofs.Words.{differ, at-is}
use Rattle.tags.specs.Tags.{open_at, close_at}
use Rattle.tags.specs.declared.Open.TheVariants.{Full, Empty, Shut}
use Rattle.markup.specs.Tree.{Tag, Forest, nil, text, elem, One, one, none, Held, held, bad, in_front, elem_at, content_at}
use Rattle.markup.proofs.Goes.{OneGoes, elem-goes}
use Rattle.markup.proofs.Elements.{elem-deep, elem-shut, elem-empty, elem-bad, elem-open, elem-full}
use Rattle.markup.proofs.Reading.{Reading, reading-starts, reading-text, reading-note, reading-child, reading-close, reading-bad, reading-none}
use Rattle.reads.specs.declared.Context.{Context}
use Rattle.reads.specs.declared.State.{State}
use Rattle.reads.specs.Names.{context_of}
use Rattle.gather.specs.declared.Gathered.{Gathered}
use Rattle.gather.specs.declared.Touch.TheVariants.{Holds}
use Rattle.gather.specs.WorkingVisit.{touch_in, left, leaf_place, visit, nothing_got, settled, finished, got_one, got_held}

-- an answer with an end counts as it stands, and one without is a refusal
pub settled_at : (n : ℕ) (r : Gathered) (j : ℕ) → r.end ≡ Some j → settled n r ≡ r
settled_at n r j q = rw q

pub settled-no : (n : ℕ) (r : Gathered) → r.end ≡ None → settled n r ≡ nothing_got n
settled-no n r q = rw q

pub piece-on : (s : List ℕ) (i j : ℕ) (x : Piece) → x ≡ piece_at s i → x ≡ Text j ⊎ x ≡ Note j → Goes s i j
piece-on s i j x e (inl q) = piece-text s i j (sym e ∙ q)
piece-on s i j x e (inr q) = piece-note s i j (sym e ∙ q)

module _ (s p : List ℕ) (c : Context) where
  -- what an element adds, and what text does
  abbrev pub adds : Tag → Forest → State → State
  adds g kids st = visit s p c st (elem g kids nil)

  abbrev pub skips : ℕ → ℕ → State → State
  skips i j st = st

  pub got-text : (st : State) (i j : ℕ) (h : Held) → got_held s p c st (in_front (text i j) h) ≡ got_held s p c st h
  unfolding got_held in_front visit
  got-text st i j (held t k) = refl
  got-text st i j bad = refl

  pub got-elem : (st : State) (g : Tag) (kids : Forest) (h : Held) → got_held s p c st (in_front (elem g kids) h) ≡ got_held s p c (adds g kids st) h
  unfolding got_held in_front visit
  got-elem st g kids (held t k) = refl
  got-elem st g kids bad = refl

  -- what is left to read from i, into st, is what there was to read
  abbrev pub Passing : ℕ → ℕ → State → ℕ → State → Type 0
  Passing d at st₀ i st = Reading (got_held s p c) skips adds got-text got-elem s d at st₀ i st

  module _ (d at : ℕ) (st₀ : State) where
    pub passing-starts : Passing d at st₀ at st₀
    passing-starts = reading-starts (got_held s p c) skips adds got-text got-elem s d at st₀

    module _ (i : ℕ) (st : State) where
      -- behind a text or a comment
      pub passing-on : (j : ℕ) (x : Piece) → x ≡ piece_at s i → x ≡ Text j ⊎ x ≡ Note j → Passing d at st₀ i st → Passing d at st₀ j st
      passing-on j x e (inl q) w = reading-text (got_held s p c) skips adds got-text got-elem s d at st₀ i st j (sym e ∙ q) w
      passing-on j x e (inr q) w = reading-note (got_held s p c) skips adds got-text got-elem s d at st₀ i st j (sym e ∙ q) w

      pub passing-close : piece_at s i ≡ Close → Passing d at st₀ i st → record { end = Some i; state = st } ≡ got_held s p c st₀ (content_at s d at)
      unfolding got_held visit
      passing-close e w = reading-close (got_held s p c) skips adds got-text got-elem s d at st₀ i st e w

      pub passing-bad : piece_at s i ≡ Bad → Passing d at st₀ i st → nothing_got (length s) ≡ got_held s p c st₀ (content_at s d at)
      unfolding got_held
      passing-bad e w = reading-bad (got_held s p c) skips adds got-text got-elem s d at st₀ i st e w

      -- a child, as `read_element` answers it
      module _ (r : Gathered) (told : settled (length s) r ≡ got_one s p c st (elem_at s d i)) where
        got : (j : ℕ) → r.end ≡ Some j → r ≡ got_one s p c st (elem_at s d i)
        got j q = sym (settled_at (length s) r j q) ∙ told

        pub child-goes : (j : ℕ) → r.end ≡ Some j → Goes s i j
        unfolding got_one
        child-goes j q = go (elem_at s d i) (elem-goes s d i) (ap (λ (x : Gathered). x.end) (sym (got j q)) ∙ q)
          where
            go : (o : One) → OneGoes s i o → (got_one s p c st o).end ≡ Some j → Goes s i j
            go (one x kids k) g e = rw (at-is e) at g
            go none g e = absurd (differ e)

        pub passing-child : (j : ℕ) → piece_at s i ≡ Child → r.end ≡ Some j → Passing d at st₀ i st → Passing d at st₀ j r.state
        unfolding got_one
        passing-child j e q w = rw (got j q) (go (elem_at s d i) refl (ap (λ (x : Gathered). x.end) (sym (got j q)) ∙ q))
          where
            go : (o : One) → elem_at s d i ≡ o → (got_one s p c st o).end ≡ Some j → Passing d at st₀ j (got_one s p c st o).state
            go (one x kids k) u y = reading-child (got_held s p c) skips adds got-text got-elem s d at st₀ i st j x kids e (u ∙ ap (one x kids) (at-is y)) w
            go none u y = absurd (differ y)

        pub passing-none : piece_at s i ≡ Child → r.end ≡ None → Passing d at st₀ i st → nothing_got (length s) ≡ got_held s p c st₀ (content_at s d at)
        unfolding got_one got_held
        passing-none e q w = go (elem_at s d i) refl (ap (λ (x : Gathered). x.end) (sym told ∙ settled-no (length s) r q))
          where
            go : (o : One) → elem_at s d i ≡ o → (got_one s p c st o).end ≡ None → nothing_got (length s) ≡ got_held s p c st₀ (content_at s d at)
            go (one x kids k) u y = absurd (differ (sym y))
            go none u y = reading-none (got_held s p c) skips adds got-text got-elem s d at st₀ i st e u w

-- `read_element`: its answer on each way, at d levels, which are one more than b
module _ (s p : List ℕ) (c : Context) (st : State) (d i : ℕ) where
  -- the context inside
  abbrev pub inner : ℕ → Context
  inner a = context_of s p (i + 1) a c st.alert.kept

  none-got : elem_at s d i ≡ none → nothing_got (length s) ≡ got_one s p c st (elem_at s d i)
  unfolding got_one
  none-got e = rw e

  pub one-deep : d ≡ 0 → nothing_got (length s) ≡ got_one s p c st (elem_at s d i)
  one-deep e = none-got (elem-deep s d i e)

  module _ (b : ℕ) (up : d ≡ suc b) where
    pub one-shut : open_at s i ≡ Shut → nothing_got (length s) ≡ got_one s p c st (elem_at s d i)
    one-shut e = none-got (elem-shut s d b i up e)

    same_place : (j : ℕ) → leaf_place s j j ≡ length s
    unfolding leaf_place
    same_place j = rw (eq-eqb j j refl)

    pub one-empty : (a j : ℕ) → open_at s i ≡ Empty a j
        → record { end = Some j; state = left s (inner a) (length s) (touch_in Holds c st) } ≡ got_one s p c st (elem_at s d i)
    unfolding got_one visit
    one-empty a j e = rw (elem-empty s d b i up a j e, same_place j)

    module _ (a j : ℕ) (e : open_at s i ≡ Full a j) (r : Gathered) (told : settled (length s) r ≡ got_held s p (inner a) (touch_in Holds c st) (content_at s b j)) where
      pub one-bad : r.end ≡ None → nothing_got (length s) ≡ got_one s p c st (elem_at s d i)
      unfolding got_held
      one-bad q = go (content_at s b j) refl (ap (λ (x : Gathered). x.end) (sym told ∙ settled-no (length s) r q))
        where
          go : (h : Held) → content_at s b j ≡ h → (got_held s p (inner a) (touch_in Holds c st) h).end ≡ None → nothing_got (length s) ≡ got_one s p c st (elem_at s d i)
          go (held t k) u y = absurd (differ (sym y))
          go bad u y = none-got (elem-bad s d b i up a j e u)

      pub one-close : (k : ℕ) → r.end ≡ Some k → finished (length s) (close_at s i a k) (left s (inner a) (leaf_place s j k) r.state) ≡ got_one s p c st (elem_at s d i)
      unfolding got_held finished got_one visit
      one-close k q = let got = sym (settled_at (length s) r k q) ∙ told in rw got (go (content_at s b j) refl (ap (λ (x : Gathered). x.end) (sym got) ∙ q))
        where
          tip : (t : Forest) → content_at s b j ≡ held t k → (x : Option ℕ) → close_at s i a k ≡ x
              → finished (length s) x (left s (inner a) (leaf_place s j k) (visit s p (inner a) (touch_in Holds c st) t)) ≡ got_one s p c st (elem_at s d i)
          tip t u (Some y) z = rw (elem-full s d b i up a j e t k y u z)
          tip t u None z = none-got (elem-open s d b i up a j e t k u z)

          go : (h : Held) → content_at s b j ≡ h → (got_held s p (inner a) (touch_in Holds c st) h).end ≡ Some k
              → finished (length s) (close_at s i a k) (left s (inner a) (leaf_place s j k) (got_held s p (inner a) (touch_in Holds c st) h).state) ≡ got_one s p c st (elem_at s d i)
          go (held t x) u y = tip t (u ∙ ap (held t) (at-is y)) (close_at s i a k) refl
          go bad u y = absurd (differ y)
