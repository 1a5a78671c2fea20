-- The loop that reads what an element holds: what is left to read from i, into what is gathered by then, is what there was to read.
-- Stated once, over any fold of what is held: a state, what a run of text and what an element add to it, and the answer.
--     reading-starts                                   the loop's beginning
--     reading-text, reading-note, reading-child        a turn
--     reading-close, reading-bad, reading-none         the ways out
use Prim.Native.Nat.{ℕ, zero, suc, ◌+◌, ◌<◌}
use mathlib.Core.Path.{◌≡◌, refl, sym, ◌∙◌}
use mathlib.Core.List.{List}
use native.Mathlib.Omega.{arith}
use lib.ListN.{length}
use Rattle.pieces.specs.Pieces.{piece_at}
use Rattle.pieces.specs.declared.Piece.TheVariants.{Text, Note, Child, Close, Bad}
use Rattle.pieces.proofs.Goes.{Goes, piece-text, piece-note, piece-close}
use Rattle.markup.specs.Tree.{Tag, Forest, nil, text, elem, one, none, Held, held, bad, in_front, child, piece_then, items, elem_at, content_at}
use Rattle.markup.proofs.Goes.{elem-goes}

module _ {S R : Type 0} (run : S → Held → R) (tx : ℕ → ℕ → S → S) (ex : Tag → Forest → S → S)
    (run-text : (st : S) (i j : ℕ) (h : Held) → run st (in_front (text i j) h) ≡ run (tx i j st) h)
    (run-elem : (st : S) (g : Tag) (kids : Forest) (h : Held) → run st (in_front (elem g kids) h) ≡ run (ex g kids st) h)
    (s : List ℕ) (d at : ℕ) (st₀ : S) where
  pub record Reading (i : ℕ) (st : S) : Type 0 where
    pub fuel : ℕ
    pub room : length s < i + fuel
    pub same : run st (items (elem_at s d) s fuel i) ≡ run st₀ (content_at s d at)

  pub reading-starts : Reading at st₀
  reading-starts = record { fuel = suc (length s); room = omega arith; same = refl }

  module _ (i : ℕ) (st : S) where
    -- one turn, whatever it was, that leaves what is read from j on
    step : (j : ℕ) (st' : S) → Goes s i j → ((n : ℕ) → run st (items (elem_at s d) s (suc n) i) ≡ run st' (items (elem_at s d) s n j)) → Reading i st → Reading j st'
    step j st' g t w = go w.fuel w.room w.same
      where
        go : (n : ℕ) → length s < i + n → run st (items (elem_at s d) s n i) ≡ run st₀ (content_at s d at) → Reading j st'
        go zero r q = let x = g.on in let y = g.in-it in absurd (omega arith)
        go (suc n) r q = let x = g.on in record { fuel = n; room = omega arith; same = sym (t n) ∙ q }

    -- a way out that refuses
    refuse : ((n : ℕ) → items (elem_at s d) s (suc n) i ≡ bad) → Reading i st → run st bad ≡ run st₀ (content_at s d at)
    unfolding items
    refuse t w = go w.fuel w.same
      where
        go : (n : ℕ) → run st (items (elem_at s d) s n i) ≡ run st₀ (content_at s d at) → run st bad ≡ run st₀ (content_at s d at)
        go zero q = q
        go (suc n) q = sym (mathlib.Core.Path.ap (run st) (t n)) ∙ q

    pub reading-text : (j : ℕ) → piece_at s i ≡ Text j → Reading i st → Reading j (tx i j st)
    unfolding items piece_then
    reading-text j e = step j (tx i j st) (piece-text s i j e) (λ n. rw e (run-text st i j _))

    pub reading-note : (j : ℕ) → piece_at s i ≡ Note j → Reading i st → Reading j st
    unfolding items piece_then
    reading-note j e = step j st (piece-note s i j e) (λ n. rw e)

    pub reading-child : (j : ℕ) (g : Tag) (kids : Forest) → piece_at s i ≡ Child → elem_at s d i ≡ one g kids j → Reading i st → Reading j (ex g kids st)
    unfolding items piece_then child
    reading-child j g kids e u = step j (ex g kids st) (rw u at (elem-goes s d i)) (λ n. rw (e, u) (run-elem st g kids _))

    pub reading-close : piece_at s i ≡ Close → Reading i st → run st (held nil i) ≡ run st₀ (content_at s d at)
    unfolding items piece_then
    reading-close e w = go w.fuel w.room w.same
      where
        go : (n : ℕ) → length s < i + n → run st (items (elem_at s d) s n i) ≡ run st₀ (content_at s d at) → run st (held nil i) ≡ run st₀ (content_at s d at)
        go zero r q = let l = piece-close s i e in absurd (omega arith)
        go (suc n) r q = sym (rw e) ∙ q

    pub reading-bad : piece_at s i ≡ Bad → Reading i st → run st bad ≡ run st₀ (content_at s d at)
    unfolding items piece_then
    reading-bad e = refuse (λ n. rw e)

    pub reading-none : piece_at s i ≡ Child → elem_at s d i ≡ none → Reading i st → run st bad ≡ run st₀ (content_at s d at)
    unfolding items piece_then child
    reading-none e u = refuse (λ n. rw (e, u))
