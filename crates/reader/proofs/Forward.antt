-- A reader goes forward, and behind what leads to the root it stands where the root is to be read.
--     lead-forward     it goes forward, up to the message's end
--     root-past        no root begins at the end
--     doc-reached      the root that begins where it stands is the message's
use Prim.Native.Nat.{ℕ, ◌≤◌}
use mathlib.Core.Path.{◌≡◌, refl}
use mathlib.Core.List.{List}
use native.Mathlib.Omega.{arith}
use lib.ListN.{length}
use Rattle.std.specs.Prelude.{Option, Some, None, MatchOption}
use Rattle.std.specs.Option.{unwrap_or}
use Rattle.pieces.proofs.Goes.{EndGoes}
use Rattle.markup.specs.Tree.{One, one, none, elem_at}
use Rattle.markup.specs.Document.{declaration_at, misc_at, led, before_root, rooted, root_at, doc_at}
use Rattle.markup.proofs.Goes.{OneGoes, elem-goes, decl-goes, misc-goes}
use Rattle.reader.specs.WorkingPosition.{reached}

-- what stands before the root, by the answers that `and_then` and `unwrap_or` give
pub led-is : (s : List ℕ) (d r : Option ℕ) (Q : ℕ → Type 0) → MatchOption d (r ≡ None) Q → ((a : ℕ) → Q a → r ≡ misc_at s a) → r ≡ led s d
unfolding led
led-is s (Some a) r Q m f = f a m
led-is s None r Q m f = m

pub reached-is : (s : List ℕ) (m : Option ℕ) → unwrap_or m (length s) ≡ reached s m
unfolding reached
reached-is s (Some j) = refl
reached-is s None = refl

pub lead-forward : (s : List ℕ) (i : ℕ) → i ≤ length s → (i ≤ reached s (before_root s i)) × (reached s (before_root s i) ≤ length s)
unfolding before_root led reached
lead-forward s i l = behind (declaration_at s i) (decl-goes s i l)
  where
    stands : (a : ℕ) → i ≤ a → (m : Option ℕ) → EndGoes s a m → (i ≤ reached s m) × (reached s m ≤ length s)
    stands a h (Some j) g = let x = g.0 in (omega arith, g.1)
    stands a h None g = (l, omega arith)

    behind : (d : Option ℕ) → EndGoes s i d → (i ≤ reached s (led s d)) × (reached s (led s d) ≤ length s)
    behind (Some a) g = stands a g.0 (misc_at s a) (misc-goes s a g.1)
    behind None g = (l, omega arith)

-- no element begins at the message's end
elem_past : (s : List ℕ) (d i : ℕ) → length s ≤ i → elem_at s d i ≡ none
elem_past s d i h = go (elem_at s d i) (elem-goes s d i)
  where
    go : (o : One) → OneGoes s i o → o ≡ none
    go (one g kids j) w = let a = w.on in let b = w.in-it in absurd (omega arith)
    go none w = refl

pub root-past : (s : List ℕ) (i : ℕ) → length s ≤ i → rooted s (elem_at s 12 i) ≡ none
unfolding rooted
root-past s i h = rw (elem_past s 12 i h)

pub doc-reached : (s : List ℕ) → rooted s (elem_at s 12 (reached s (before_root s 0))) ≡ doc_at s
unfolding reached doc_at root_at
doc-reached s = go (before_root s 0)
  where
    go : (x : Option ℕ) → rooted s (elem_at s 12 (reached s x)) ≡ root_at s x
    go (Some i) = refl
    go None = root-past s (length s) (omega arith)
