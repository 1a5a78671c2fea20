-- Elements, what they hold, the declaration, and white space and comments go forward and stay inside the message.
--     elem-goes, content-goes     an element, and what an element holds
--     decl-goes, misc-goes        the declaration, and white space and comments
use Prim.Native.Nat.{ℕ, zero, suc, ◌+◌, ◌<◌, ◌≤◌}
use mathlib.Core.Path.{◌≡◌, refl}
use mathlib.Core.Bool.{Bool, true, false}
use mathlib.Core.List.{List, [], ◌∷◌}
use native.Mathlib.Omega.{arith}
use lib.ListN.{length}
use lib.Dec.{lit<}
use Rattle.octets.specs.Bytes.{pick, byte_at, stands, is_space}
use Rattle.octets.specs.Scan.{scan_by}
use Rattle.octets.specs.Text.{bytes}
use Rattle.octets.proofs.Sames.{stands-in}
use Rattle.octets.proofs.Scans.{by-ge}
use Rattle.characters.specs.Utf8.{coded_width}
use Rattle.pieces.specs.Pieces.{note_at, piece_at}
use Rattle.std.specs.Prelude.{Option, Some, None}
use Rattle.pieces.specs.declared.Step.TheVariants.{Go, Stop}
use Rattle.pieces.specs.declared.Piece.{Piece}
use Rattle.pieces.specs.declared.Piece.TheVariants.{Text, Note, Child, Close, Bad}
use Rattle.pieces.proofs.Inside.{space-in}
use Rattle.pieces.proofs.Goes.{Goes, PastGoes, EndGoes, PieceGoes, note-goes, piece-goes}
use Rattle.pieces.proofs.Walks.{StepGoes, walk-goes}
use Rattle.tags.specs.Tags.{open_at, close_at}
use Rattle.tags.specs.declared.Open.{Open}
use Rattle.tags.specs.declared.Open.TheVariants.{Full, Empty, Shut}
use Rattle.tags.proofs.Goes.{OpenGoes, open-goes, close-tag-goes}
use Rattle.markup.specs.Tree.{Tag, Forest, text, elem, One, one, none, Held, held, bad, in_front, child, piece_then, items, sealed, closed, opened, elem_at, content_at}
use Rattle.markup.specs.Document.{in_declaration, declaration_at, go_on, misc_step, misc_at}

-- ---- elements, by the answers: where one ends, and where the end tag stands

abbrev pub OneGoes : List ℕ → ℕ → One → Type 0
OneGoes s i (one g kids j) = Goes s i j
OneGoes s i none = Unit {0}

abbrev pub HeldGoes : List ℕ → ℕ → Held → Type 0
HeldGoes s i (held t j) = (i ≤ j) × (j < length s)
HeldGoes s i bad = Unit {0}

put-goes : (s : List ℕ) (i j : ℕ) (f : Forest → Forest) (h : Held) → i < j → HeldGoes s j h → HeldGoes s i (in_front f h)
unfolding in_front
put-goes s i j f (held t k) l g = let a = g.0 in (omega arith, g.1)
put-goes s i j f bad l g = tt

on-goes : (s : List ℕ) (i j : ℕ) (h : Held) → i < j → HeldGoes s j h → HeldGoes s i h
on-goes s i j (held t k) l g = let a = g.0 in (omega arith, g.1)
on-goes s i j bad l g = tt

pub items-goes : (el : ℕ → One) (s : List ℕ) → ((i : ℕ) → OneGoes s i (el i)) → (n i : ℕ) → HeldGoes s i (items el s n i)
unfolding items child piece_then
items-goes el s f zero i = tt
items-goes el s f (suc n) i = go (piece_at s i) (piece-goes s i) (items-goes el s f n)
  where
    inner : (o : One) → OneGoes s i o → ((j : ℕ) → HeldGoes s j (items el s n j)) → HeldGoes s i (child o (items el s n))
    inner (one x kids j) g r = put-goes s i j (elem x kids) (items el s n j) g.on (r j)
    inner none g r = tt

    go : (p : Piece) → PieceGoes s i p → ((j : ℕ) → HeldGoes s j (items el s n j)) → HeldGoes s i (piece_then el i p (items el s n))
    go (Text j) g r = put-goes s i j (text i j) (items el s n j) g.on (r j)
    go (Note j) g r = on-goes s i j (items el s n j) g.on (r j)
    go Child g r = inner (el i) (f i) r
    go Close g r = (omega arith, g)
    go Bad g r = tt

pub elem-goes : (s : List ℕ) (d i : ℕ) → OneGoes s i (elem_at s d i)
unfolding elem_at sealed closed opened
elem-goes s zero i = tt
elem-goes s (suc d) i = go (open_at s i) (open-goes s i) (items-goes (elem_at s d) s (elem-goes s d) (suc (length s)))
  where
    seal : (x : Tag) (kids : Forest) (j : ℕ) → i < j → (e : Option ℕ) → PastGoes s j e → OneGoes s i (sealed x kids e)
    seal x kids j l (Some k) g = let h = g.on in record { on = omega arith; in-it = g.in-it }
    seal x kids j l None g = tt

    shut : (a j : ℕ) (h : Held) → i < j → HeldGoes s j h → OneGoes s i (closed s i a j h)
    shut a j (held kids k) l g = let x = g.0 in seal (record { from = i; name = a; body = j; shut = k }) kids k (omega arith) (close_at s i a k) (close-tag-goes s i a k)
    shut a j bad l g = tt

    go : (o : Open) → OpenGoes s i o → ((j : ℕ) → HeldGoes s j (items (elem_at s d) s (suc (length s)) j)) → OneGoes s i (opened s i o (items (elem_at s d) s (suc (length s))))
    go (Full a j) g r = let x = g.0 in let y = g.1 in shut a j (items (elem_at s d) s (suc (length s)) j) (omega arith) (r j)
    go (Empty a j) g r = let x = g.0 in let y = g.1 in record { on = omega arith; in-it = g.2 }
    go Shut g r = tt

pub content-goes : (s : List ℕ) (d i : ℕ) → HeldGoes s i (content_at s d i)
content-goes s d i = items-goes (elem_at s d) s (elem-goes s d) (suc (length s)) i

-- ---- before and behind the root

pub decl-goes : (s : List ℕ) (i : ℕ) → i ≤ length s → EndGoes s i (declaration_at s i)
unfolding declaration_at bytes
decl-goes s i l = go (stands (60 ∷ 63 ∷ 120 ∷ 109 ∷ 108 ∷ []) s i) (is_space (byte_at s (i + 5))) (stands (63 ∷ 62 ∷ []) s e) refl
  where
    e : ℕ
    e = scan_by (coded_width s) (in_declaration s) (length s) (i + 6)

    go : (a b c : Bool) → stands (63 ∷ 62 ∷ []) s e ≡ c → EndGoes s i (pick a (pick b (pick c (Some (e + 2)) None) None) (Some i))
    go true true true q = let h = by-ge (coded_width s) (in_declaration s) (length s) (i + 6) in (omega arith, stands-in (63 ∷ 62 ∷ []) s e q (lit< tt))
    go true true false q = tt
    go true false c q = tt
    go false b c q = (omega arith, l)

pub step-goes : (s : List ℕ) (i : ℕ) → i ≤ length s → StepGoes s i (misc_step s i)
unfolding misc_step go_on
step-goes s i l = go (is_space (byte_at s i)) refl (stands (bytes "<!--") s i)
  where
    pass : (x : Option ℕ) → PastGoes s i x → StepGoes s i (go_on x)
    pass (Some j) g = g
    pass None g = tt

    go : (a : Bool) → is_space (byte_at s i) ≡ a → (b : Bool) → StepGoes s i (pick a (Go (i + 1)) (pick b (go_on (note_at s i)) (Stop i)))
    go true p b = let h = space-in s i p in record { on = omega arith; in-it = omega arith }
    go false p true = pass (note_at s i) (note-goes s i)
    go false p false = (omega arith, l)

-- a step over white space or a comment goes forward from any place on, past the end too
pub misc-forward : (s : List ℕ) (i j : ℕ) → Go j ≡ misc_step s i → (i < j) × (j ≤ length s)
unfolding misc_step go_on
misc-forward s i j = go (is_space (byte_at s i)) refl (stands (bytes "<!--") s i) (note_at s i) (note-goes s i)
  where
    go : (a : Bool) → is_space (byte_at s i) ≡ a → (b : Bool) (x : Option ℕ) → PastGoes s i x → Go j ≡ pick a (Go (i + 1)) (pick b (go_on x) (Stop i)) → (i < j) × (j ≤ length s)
    go true p b x g e = let h = space-in s i p in let q : j ≡ i + 1 = cc in (omega arith, omega arith)
    go false p true (Some k) g e = let h = g.on in let l = g.in-it in let q : j ≡ k = cc in (omega arith, omega arith)
    go false p true None g e = cc
    go false p false x g e = cc

pub misc-goes : (s : List ℕ) (i : ℕ) → i ≤ length s → EndGoes s i (misc_at s i)
unfolding misc_at
misc-goes s i l = walk-goes (misc_step s) s (step-goes s) (suc (length s)) i l
