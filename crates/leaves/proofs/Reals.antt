-- In the tree of a message, the value at a leaf's place is the value of what the leaf holds, and its place lies in the message.
--     leaf-is     of each element that the root of a message holds
use Prim.Native.Nat.{ℕ, zero, suc, ◌<◌, ◌≤◌}
use mathlib.Core.Path.{◌≡◌, refl, sym, ap, ◌∙◌}
use mathlib.Core.Bool.{Bool, true, false}
use mathlib.Core.List.{List, []}
use native.Mathlib.Omega.{arith}
use lib.ListN.{length}
use lib.Dec.{eqb}
use borrow.Author.Tests.{eqb-true, eq-eqb}
use Rattle.octets.specs.Bytes.{pick}
use Rattle.pieces.specs.Pieces.{piece_at}
use Rattle.std.specs.Prelude.{Option, Some, None}
use Rattle.pieces.specs.declared.Piece.{Piece}
use Rattle.pieces.specs.declared.Piece.TheVariants.{Text, Note, Child, Close, Bad}
use Rattle.pieces.proofs.Goes.{PieceGoes, piece-goes}
use Rattle.tags.specs.Tags.{open_at, close_at}
use Rattle.tags.specs.declared.Open.{Open}
use Rattle.tags.specs.declared.Open.TheVariants.{Full, Empty, Shut}
use Rattle.tags.proofs.Goes.{OpenGoes, open-goes}
use Rattle.markup.specs.Tree.{Tag, Forest, nil, text, elem, One, one, none, Held, held, bad, in_front, child, piece_then, items, sealed, closed, opened, elem_at, content_at}
use Rattle.markup.specs.Document.{declaration_at, misc_at, led, before_root, ended, rooted, root_at, doc_at}
use Rattle.markup.proofs.Goes.{OneGoes, HeldGoes, items-goes, elem-goes}
use Rattle.values.specs.Value.{runs, trimmed, collapsed, value_at}
use Rattle.values.proofs.Steps.{value-past}
use Rattle.gather.specs.WorkingVisit.{leaf_place}
use Rattle.gather.specs.WorkingRead.{place_in}
use Rattle.leaves.specs.Leaf.{decoded, leaf_value}
use Rattle.leaves.proofs.Trees.{value-of-items}

-- an element whose place lies in the message, and whose value there is that of what it holds
pub record Real (s : List ℕ) (g : Tag) (kids : Forest) : Type 0 where
  pub inside : place_in s g ≤ length s
  pub value : value_at s (place_in s g) ≡ leaf_value s kids

abbrev pub AllReal : List ℕ → Forest → Type 0
AllReal s nil = Unit {0}
AllReal s (text i j rest) = AllReal s rest
AllReal s (elem g kids rest) = Real s g kids × AllReal s kids × AllReal s rest

abbrev pub OneReal : List ℕ → One → Type 0
OneReal s (one g kids e) = Real s g kids × AllReal s kids
OneReal s none = Unit {0}

abbrev HeldReal : List ℕ → Held → Type 0
HeldReal s (held t k) = AllReal s t
HeldReal s bad = Unit {0}

module _ (s : List ℕ) (el : ℕ → One) where
  items-real : ((i : ℕ) → OneReal s (el i)) → (n i : ℕ) → HeldReal s (items el s n i)
  unfolding items piece_then child in_front
  items-real f zero i = tt
  items-real f (suc n) i = go (items-real f n) (piece_at s i)
    where
      Rest : Type 0
      Rest = (j : ℕ) → HeldReal s (items el s n j)

      texts : (j : ℕ) (h : Held) → HeldReal s h → HeldReal s (in_front (text i j) h)
      texts j (held t k) r = r
      texts j bad r = tt

      elems : (g : Tag) (kids : Forest) → Real s g kids → AllReal s kids → (h : Held) → HeldReal s h → HeldReal s (in_front (elem g kids) h)
      elems g kids x y (held t k) r = (x, y, r)
      elems g kids x y bad r = tt

      born : Rest → (o : One) → OneReal s o → HeldReal s (child o (items el s n))
      born w (one g kids j) r = elems g kids r.0 r.1 (items el s n j) (w j)
      born w none r = tt

      go : Rest → (p : Piece) → HeldReal s (piece_then el i p (items el s n))
      go w (Text j) = texts j (items el s n j) (w j)
      go w (Note j) = w j
      go w Child = born w (el i) (f i)
      go w Close = tt
      go w Bad = tt

-- what ends where it begins holds nothing
empty-held : (s : List ℕ) (d i : ℕ) (t : Forest) → content_at s d i ≡ held t i → t ≡ nil
unfolding items piece_then child in_front
empty-held s d i t e = go (piece_at s i) (piece-goes s i) e
  where
    n : ℕ
    n = length s

    is : {u : Forest} {k : ℕ} → held u k ≡ held t i → u ≡ t
    is q = cc

    at : {u : Forest} {k : ℕ} → held u k ≡ held t i → k ≡ i
    at q = cc

    never : bad ≡ held t i → t ≡ nil
    never q = absurd (let z : ◌≡◌ {A = ℕ} 0 1 = cc in omega arith)

    back : (j : ℕ) (f : Forest → Forest) (h : Held) → HeldGoes s j h → i < j → in_front f h ≡ held t i → t ≡ nil
    back j f (held u k) g l q = let x = g.0 in let y = at q in absurd (omega arith)
    back j f bad g l q = never q

    same : (j : ℕ) (h : Held) → HeldGoes s j h → i < j → h ≡ held t i → t ≡ nil
    same j (held u k) g l q = let x = g.0 in let y = at q in absurd (omega arith)
    same j bad g l q = never q

    born : (o : One) → OneGoes s i o → child o (items (elem_at s d) s n) ≡ held t i → t ≡ nil
    born (one g kids j) r q = back j (elem g kids) (items (elem_at s d) s n j) (items-goes (elem_at s d) s (elem-goes s d) n j) r.on q
    born none r q = never q

    go : (p : Piece) → PieceGoes s i p → piece_then (elem_at s d) i p (items (elem_at s d) s n) ≡ held t i → t ≡ nil
    go (Text j) g q = back j (text i j) (items (elem_at s d) s n j) (items-goes (elem_at s d) s (elem-goes s d) n j) g.on q
    go (Note j) g q = same j (items (elem_at s d) s n j) (items-goes (elem_at s d) s (elem-goes s d) n j) g.on q
    go Child g q = born (elem_at s d i) (elem-goes s d i) q
    go Close g q = sym (is q)
    go Bad g q = never q

-- ---- the elements of a message

none_said : (s : List ℕ) → leaf_value s nil ≡ []
unfolding leaf_value decoded collapsed trimmed runs
none_said s = refl

-- an element that holds what stands from j to k
real-at : (s : List ℕ) (d i a j k : ℕ) (kids : Forest) → j ≤ length s → content_at s d j ≡ held kids k → Real s (record { from = i; name = a; body = j; shut = k }) kids
unfolding leaf_place
real-at s d i a j k kids l e = go (eqb j k) refl
  where
    go : (b : Bool) → eqb j k ≡ b → Real s (record { from = i; name = a; body = j; shut = k }) kids
    go true q =
        let z : kids ≡ nil = empty-held s d j kids (e ∙ ap (held kids) (sym (eqb-true j k q))) in
        record { inside = rw q (omega arith); value = rw q (value-past s (length s) (omega arith) ∙ sym (ap (leaf_value s) z ∙ none_said s)) }
    go false q = record { inside = rw q l; value = rw q (value-of-items s (elem_at s d) (suc (length s)) j k kids e) }

pub elem-real : (s : List ℕ) (d i : ℕ) → OneReal s (elem_at s d i)
unfolding elem_at opened closed sealed leaf_place
elem-real s zero i = tt
elem-real s (suc d) i = go (open_at s i) (open-goes s i) (items-real s (elem_at s d) (elem-real s d) (suc (length s)))
  where
    Rest : Type 0
    Rest = (j : ℕ) → HeldReal s (content_at s d j)

    ends : (g : Tag) (kids : Forest) → Real s g kids → AllReal s kids → (x : Option ℕ) → OneReal s (sealed g kids x)
    ends g kids x y (Some e) = (x, y)
    ends g kids x y None = tt

    full : (a j : ℕ) → j ≤ length s → (h : Held) → content_at s d j ≡ h → HeldReal s h → OneReal s (closed s i a j h)
    full a j l (held kids k) e r = ends (record { from = i; name = a; body = j; shut = k }) kids (real-at s d i a j k kids l e) r (close_at s i a k)
    full a j l bad e r = tt

    go : (o : Open) → OpenGoes s i o → Rest → OneReal s (opened s i o (content_at s d))
    go (Full a j) g w = full a j g.2 (content_at s d j) refl (w j)
    go (Empty a j) g w = (
      record {
        inside = rw (eq-eqb j j refl) (omega arith);
        value = rw (eq-eqb j j refl) (value-past s (length s) (omega arith) ∙ sym (none_said s));
      },
      tt,
    )
    go Shut g w = tt

-- of each element that the root of a message of the subset holds
pub leaf-is : (s : List ℕ) (g : Tag) (kids : Forest) (e : ℕ) → doc_at s ≡ one g kids e → AllReal s kids
unfolding doc_at before_root led root_at rooted ended
leaf-is s g kids e q = go (declaration_at s 0) q
  where
    is : (h : Tag) (f : Forest) (k : ℕ) → AllReal s f → one h f k ≡ one g kids e → AllReal s kids
    is h f k r u = let w : f ≡ kids = cc in rw w at r

    never : none ≡ one g kids e → AllReal s kids
    never u = absurd (let z : ◌≡◌ {A = ℕ} 0 1 = cc in omega arith)

    kept : (h : Tag) (f : Forest) (k : ℕ) → AllReal s f → (b : Bool) → pick b (one h f k) none ≡ one g kids e → AllReal s kids
    kept h f k r true u = is h f k r u
    kept h f k r false u = never u

    after : (h : Tag) (f : Forest) (k : ℕ) → AllReal s f → (m : Option ℕ) → ended s (one h f k) m ≡ one g kids e → AllReal s kids
    after h f k r (Some j) u = kept h f k r (eqb j (length s)) u
    after h f k r None u = never u

    root : (o : One) → OneReal s o → rooted s o ≡ one g kids e → AllReal s kids
    root (one h f k) r u = after h f k r.1 (misc_at s k) u
    root none r u = never u

    behind : (m : Option ℕ) → root_at s m ≡ one g kids e → AllReal s kids
    behind (Some i) u = root (elem_at s 12 i) (elem-real s 12 i) u
    behind None u = never u

    go : (d : Option ℕ) → root_at s (led s d) ≡ one g kids e → AllReal s kids
    go (Some a) u = behind (misc_at s a) u
    go None u = never u
