-- Values, attributes and tags go forward and stay inside the message.
--     attr-goes, named-goes         an attribute, and where the value of one of a name stands
--     open-goes, close-tag-goes     a start tag and an end tag
use Prim.Native.Nat.{ℕ, suc, ◌+◌, ◌-◌, ◌<◌, ◌≤◌}
use mathlib.Core.Path.{◌≡◌, refl}
use mathlib.Core.Bool.{Bool, true, false}
use mathlib.Core.List.{List, [], ◌∷◌}
use native.Mathlib.Omega.{arith}
use lib.ListN.{length}
use lib.Dec.{eqb, leb, lit<}
use borrow.Author.Tests.{eqb-true}
use Rattle.octets.specs.Bytes.{pick, byte_at, part, same, stands, is_space}
use Rattle.octets.specs.Scan.{past}
use Rattle.octets.specs.Text.{bytes}
use Rattle.octets.proofs.Sames.{stands-in}
use Rattle.pieces.specs.Walk.{walk_at}
use Rattle.pieces.specs.Pieces.{name_at, char_at}
use Rattle.std.specs.Prelude.{Option, Some, None}
use Rattle.pieces.specs.declared.Step.TheVariants.{Go, Stop, Stuck}
use Rattle.pieces.proofs.Words.{inside_is}
use Rattle.pieces.proofs.Goes.{Goes, PastGoes, EndGoes, RefGoes, space-ge, name-goes, char-goes}
use Rattle.pieces.proofs.Walks.{StepGoes, walk-goes}
use Rattle.tags.specs.Attributes.{over, bit_at, quoted_at, attribute_of, equalled, attr_at, sought, seek_at, attr_named}
use Rattle.tags.specs.Tags.{unless_named, taken, take_at, shut_at, tail_at, tailed, open_at, close_at}
use Rattle.tags.specs.WorkingTree.{way, apart, looked, look_at}
use Rattle.tags.specs.declared.Attr.{Attr}
use Rattle.tags.specs.declared.Attr.TheVariants.{Of, Last, Bad}
use Rattle.tags.specs.declared.Open.{Open}
use Rattle.tags.specs.declared.Open.TheVariants.{Full, Empty, Shut}

-- ---- values

over-goes : (s : List ℕ) (i : ℕ) (r : Option (ℕ × ℕ)) → RefGoes s i r → StepGoes s i (over r)
unfolding over
over-goes s i (Some (c, j)) g = g
over-goes s i None g = tt

pub bit-goes : (s : List ℕ) (q : ℕ) → 0 < q → (i : ℕ) → StepGoes s i (bit_at s q i)
unfolding bit_at
bit-goes s q z i = go (eqb (byte_at s i) q) refl
  where
    go : (b : Bool) → eqb (byte_at s i) q ≡ b → StepGoes s i (pick b (Stop (i + 1)) (over (char_at s i)))
    go true p = let h = inside_is s i q z (eqb-true _ _ p) in (omega arith, omega arith)
    go false p = over-goes s i (char_at s i) (char-goes s i)

value-goes : (s : List ℕ) (i : ℕ) → PastGoes s i (quoted_at s i)
unfolding quoted_at
value-goes s i = go (eqb (byte_at s i) 34) refl (eqb (byte_at s i) 39) refl
  where
    behind : (e : Option ℕ) → EndGoes s (i + 1) e → PastGoes s i e
    behind (Some j) g = let x = g.0 in record { on = omega arith; in-it = g.1 }
    behind None g = tt

    in-quotes : (q : ℕ) → 0 < q → byte_at s i ≡ q → PastGoes s i (walk_at (bit_at s q) s (i + 1))
    in-quotes q z e = let h = inside_is s i q z e in behind (walk_at (bit_at s q) s (i + 1)) (walk-goes (bit_at s q) s (λ k m. bit-goes s q z k) (suc (length s)) (i + 1) (omega arith))

    go : (b : Bool) → eqb (byte_at s i) 34 ≡ b → (c : Bool) → eqb (byte_at s i) 39 ≡ c → PastGoes s i (pick b (walk_at (bit_at s 34) s (i + 1)) (pick c (walk_at (bit_at s 39) s (i + 1)) None))
    go true p c q = in-quotes 34 (lit< tt) (eqb-true _ _ p)
    go false p true q = in-quotes 39 (lit< tt) (eqb-true _ _ q)
    go false p false q = tt

-- ---- attributes

abbrev pub AttrGoes : List ℕ → ℕ → Attr → Type 0
AttrGoes s i (Of j e v w) = (i ≤ j) × (j < e) × (e < v) × (v < w) × (w ≤ length s)
AttrGoes s i (Last j) = (i ≤ j) × (j < length s)
AttrGoes s i Bad = Unit {0}

pub attr-goes : (s : List ℕ) (i : ℕ) → AttrGoes s i (attr_at s i)
unfolding attr_at equalled attribute_of
attr-goes s i = go (eqb (byte_at s (past is_space s i)) 62) refl (eqb (byte_at s (past is_space s i)) 47) refl (eqb (past is_space s i) i)
  where
    val : (e v : ℕ) → past is_space s i < e → e < v → (x : Option ℕ) → PastGoes s v x → AttrGoes s i (attribute_of (past is_space s i) e v x)
    val e v a b (Some w) g = let h = space-ge s i in (h, a, b, g.on, g.in-it)
    val e v a b None g = tt

    eq : (e : ℕ) → past is_space s i < e → (b : Bool)
        → AttrGoes s i (pick b (attribute_of (past is_space s i) e (past is_space s (past is_space s e + 1)) (quoted_at s (past is_space s (past is_space s e + 1)))) Bad)
    eq e a true =
        let h = space-ge s e in
        let k = space-ge s (past is_space s e + 1) in
        val e (past is_space s (past is_space s e + 1)) a (omega arith) (quoted_at s (past is_space s (past is_space s e + 1))) (value-goes s (past is_space s (past is_space s e + 1)))
    eq e a false = tt

    nam : (x : Option ℕ) → name_at s (past is_space s i) ≡ x → AttrGoes s i (equalled s (past is_space s i) x)
    nam (Some e) q = let g = name-goes s (past is_space s i) e q in eq e g.on (eqb (byte_at s (past is_space s e)) 61)
    nam None q = tt

    go : (b : Bool) → eqb (byte_at s (past is_space s i)) 62 ≡ b → (c : Bool) → eqb (byte_at s (past is_space s i)) 47 ≡ c → (d : Bool)
        → AttrGoes s i (pick b (Last (past is_space s i)) (pick c (Last (past is_space s i)) (pick d Bad (equalled s (past is_space s i) (name_at s (past is_space s i))))))
    go true p c q d = (space-ge s i, inside_is s (past is_space s i) 62 (lit< tt) (eqb-true _ _ p))
    go false p true q d = (space-ge s i, inside_is s (past is_space s i) 47 (lit< tt) (eqb-true _ _ q))
    go false p false q true = tt
    go false p false q false = nam (name_at s (past is_space s i)) refl

pub of-goes : {s : List ℕ} {i j e v w : ℕ} → AttrGoes s i (Of j e v w) → Goes s i w
of-goes g = let a = g.0 in let b = g.1 in let c = g.2 in let d = g.3 in record { on = omega arith; in-it = g.4 }

-- an attribute that was read at i: its name from j to e, and where it ends
pub record Read (s : List ℕ) (i j e w : ℕ) : Type 0 where
  pub from : i ≤ j
  pub some : j < e
  pub on : e < w
  pub in-it : w ≤ length s

pub attr-read : (s : List ℕ) (i j e v w : ℕ) → attr_at s i ≡ Of j e v w → Read s i j e w
attr-read s i j e v w q =
    let g : AttrGoes s i (Of j e v w) = rw q at (attr-goes s i) in
    let a = g.2 in
    let b = g.3 in
    record { from = g.0; some = g.1; on = omega arith; in-it = g.4 }

pub seek-goes : (s w : List ℕ) (stop i : ℕ) → StepGoes s i (seek_at s w stop i)
unfolding seek_at sought
seek-goes s w stop i = go (attr_at s i) (attr-goes s i)
  where
    of : (v e : ℕ) → i ≤ v → v ≤ length s → Goes s i e → (b c : Bool) → StepGoes s i (pick b Stuck (pick c (Stop v) (Go e)))
    of v e x y g true c = tt
    of v e x y g false true = (x, y)
    of v e x y g false false = g

    go : (x : Attr) → AttrGoes s i x → StepGoes s i (sought s w stop x)
    go (Of a b v e) g =
        let x = g.0 in let y = g.1 in let z = g.2 in let u = g.3 in let t = g.4 in
        of v e (omega arith) (omega arith) (of-goes g) (leb stop a) (same (part s a (b - a)) w)
    go (Last k) g = tt
    go Bad g = tt

pub named-goes : (s w : List ℕ) (i stop : ℕ) → i ≤ length s → EndGoes s i (attr_named s w i stop)
unfolding attr_named
named-goes s w i stop l = walk-goes (seek_at s w stop) s (λ k m. seek-goes s w stop k) (suc (length s)) i l

-- ---- tags

pub take-goes : (s : List ℕ) (a i : ℕ) → StepGoes s i (take_at s a i)
unfolding take_at taken unless_named
take-goes s a i = go (attr_at s i) (attr-goes s i)
  where
    of : (w : ℕ) → Goes s i w → (x : Option ℕ) → StepGoes s i (unless_named x w)
    of w g (Some k) = tt
    of w g None = g

    go : (x : Attr) → AttrGoes s i x → StepGoes s i (taken s a x)
    go (Of j e v w) g = of w (of-goes g) (attr_named s (part s j (e - j)) a j)
    go (Last j) g = let x = g.1 in (g.0, omega arith)
    go Bad g = tt

pub look-goes : (s t : List ℕ) (i : ℕ) → StepGoes s i (look_at s t i)
unfolding look_at looked apart
look-goes s t i = go (attr_at s i) (attr-goes s i)
  where
    of : (w : ℕ) → Goes s i w → (x : Option ℕ) → StepGoes s i (apart x w)
    of w g (Some k) = g
    of w g None = tt

    go : (x : Attr) → AttrGoes s i x → StepGoes s i (looked s t x)
    go (Of j e v w) g = of w (of-goes g) (way s t (part s j (e - j)))
    go (Last j) g = let x = g.1 in (g.0, omega arith)
    go Bad g = tt

pub attrs-goes : (s : List ℕ) (a : ℕ) → a ≤ length s → EndGoes s a (walk_at (take_at s a) s a)
attrs-goes s a l = walk-goes (take_at s a) s (λ k m. take-goes s a k) (suc (length s)) a l

-- where its name ends and what comes after it
abbrev pub OpenGoes : List ℕ → ℕ → Open → Type 0
OpenGoes s i (Full a j) = (i + 1 < a) × (a < j) × (j ≤ length s)
OpenGoes s i (Empty a j) = (i + 1 < a) × (a < j) × (j ≤ length s)
OpenGoes s i Shut = Unit {0}

tail-goes : (s : List ℕ) (i a : ℕ) → i + 1 < a → a ≤ length s → OpenGoes s i (tail_at s a)
unfolding tail_at shut_at bytes
tail-goes s i a l m = at (walk_at (take_at s a) s a) (attrs-goes s a m)
  where
    go : (j : ℕ) → a ≤ j → (b c : Bool) → eqb (byte_at s j) 62 ≡ b → stands (47 ∷ 62 ∷ []) s j ≡ c
        → OpenGoes s i (pick b (Full a (j + 1)) (pick c (Empty a (j + 2)) Shut))
    go j g true c p q = let k = inside_is s j 62 (lit< tt) (eqb-true _ _ p) in (l, omega arith, omega arith)
    go j g false true p q = let k : j + 2 ≤ length s = stands-in (47 ∷ 62 ∷ []) s j q (lit< tt) in (l, omega arith, k)
    go j g false false p q = tt

    at : (e : Option ℕ) → EndGoes s a e → OpenGoes s i (shut_at s a e)
    at (Some j) g = go j g.0 (eqb (byte_at s j) 62) (stands (47 ∷ 62 ∷ []) s j) refl refl
    at None g = tt

pub open-goes : (s : List ℕ) (i : ℕ) → OpenGoes s i (open_at s i)
unfolding open_at tailed
open-goes s i = go (eqb (byte_at s i) 60)
  where
    named : (e : Option ℕ) → name_at s (i + 1) ≡ e → OpenGoes s i (tailed s e)
    named (Some a) q = let g = name-goes s (i + 1) a q in tail-goes s i a g.on g.in-it
    named None q = tt

    go : (b : Bool) → OpenGoes s i (pick b (tailed s (name_at s (i + 1))) Shut)
    go true = named (name_at s (i + 1)) refl
    go false = tt

pub close-tag-goes : (s : List ℕ) (i a j : ℕ) → PastGoes s j (close_at s i a j)
unfolding close_at
close-tag-goes s i a j =
    go (stands (bytes "</") s j) (stands (part s (i + 1) (a - (i + 1))) s (j + 2)) (eqb (byte_at s (past is_space s (j + 2 + (a - (i + 1))))) 62) refl
  where
    go : (b c d : Bool) → eqb (byte_at s (past is_space s (j + 2 + (a - (i + 1))))) 62 ≡ d
        → PastGoes s j (pick b (pick c (pick d (Some (past is_space s (j + 2 + (a - (i + 1))) + 1)) None) None) None)
    go true true true q =
        let g = space-ge s (j + 2 + (a - (i + 1))) in
        let m = inside_is s (past is_space s (j + 2 + (a - (i + 1)))) 62 (lit< tt) (eqb-true _ _ q) in
        record { on = omega arith; in-it = omega arith }
    go true true false q = tt
    go true false d q = tt
    go false c d q = tt
