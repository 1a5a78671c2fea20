-- The tree of names beside the walk through the attributes from `at` to i: it has the names of those that were read, and no others.
--     kept-starts, kept-moves     at the first attribute, and behind one whose name was added
--     met                         an attribute whose name is in the tree is refused
--     rest-taken, rest-refused    the attributes from i on are taken if they are taken by themselves, and no node has the name of one
use Prim.Native.Nat.{ℕ, zero, suc, ◌+◌, ◌-◌, ◌<◌, ◌≤◌}
use mathlib.Core.Path.{◌≡◌, refl, sym, ap, ◌∙◌}
use mathlib.Core.Bool.{Bool, true, false}
use mathlib.Core.List.{List}
use native.Mathlib.Omega.{arith}
use borrow.Author.Tests.{le-leb, lt-leb, eqb-true, eqb-false}
use lib.Dec.{eqb}
use lib.ListN.{length, replicate, length-take, length-drop}
use Rattle.octets.specs.Bytes.{part, same}
use Rattle.octets.proofs.Sames.{same-is, same_refl}
use Rattle.pieces.specs.Walk.{stepped, walk, walk_at}
use Rattle.std.specs.Prelude.{Option, Some, None}
use Rattle.pieces.specs.declared.Step.TheVariants.{Go, Stop, Stuck}
use Rattle.pieces.proofs.Walks.{Walking, walk-starts, walk-moves, walk-stops, walk-stuck, walk-rest}
use Rattle.tags.specs.Attributes.{attr_at, sought, seek_at, attr_named}
use Rattle.tags.specs.Tags.{unless_named, taken, take_at}
use Rattle.tags.specs.WorkingTree.{nodes, cells, node_name, way, NameTree, hung, Grown, apart, looked, look_at}
use Rattle.tags.specs.declared.Attr.{Attr}
use Rattle.tags.specs.declared.Attr.TheVariants.{Of, Last, Bad}
use Rattle.tags.proofs.Goes.{attr-read, seek-goes, take-goes}
use Rattle.tags.proofs.Trees.{met-node, root-bare, tree-bare, hung-old, hung-new, hung-tree, free_was, free_other}

-- what the second says where the first is not refused
abbrev also : Option ℕ → Option ℕ → Option ℕ
also (Some k) y = y
also None y = None

also-none : (x : Option ℕ) → None ≡ also x None
also-none (Some k) = refl
also-none None = refl

-- ---- the tree beside the walk

pub record Kept (s t : List ℕ) (at i n : ℕ) : Type 0 where
  pub walking : Walking (take_at s at) s at i
  pub within : i ≤ length s
  pub tree : NameTree s t n
  pub far : at + n ≤ i + 1
  -- the search for a name that no node has comes to i too, and the search for that of a node ends before
  pub seeking : (w : List ℕ) (x stop : ℕ) → way s t w ≡ Some x → i ≤ stop → Walking (seek_at s w stop) s at i
  pub ended : (k stop : ℕ) → 0 < k → k < n → i ≤ stop → (v : ℕ) × (Some v ≡ walk_at (seek_at s (node_name s t k) stop) s at)

pub kept-starts : (s : List ℕ) (at : ℕ) → at ≤ length s → Kept s (replicate {A = ℕ} cells 0) at at 1
kept-starts s at l =
    record {
      walking = walk-starts (take_at s at) s at;
      within = l;
      tree = tree-bare s;
      far = omega arith;
      seeking = λ w x stop q g. walk-starts (seek_at s w stop) s at;
      ended = λ k stop a b g. absurd (omega arith);
    }

module _ (s t : List ℕ) (at i n : ℕ) (kept : Kept s t at i n) where
  found : (w : List ℕ) (stop : ℕ) → 0 < length w → way s t w ≡ None → i ≤ stop → (v : ℕ) × (Some v ≡ walk_at (seek_at s w stop) s at)
  found w stop z q l = go (met-node s t w n kept.tree q)
    where
      go : (q : ℕ) × (q < n) × (same (node_name s t q) w ≡ true) → (v : ℕ) × (Some v ≡ walk_at (seek_at s w stop) s at)
      go (zero, a, p) = let e = ap length (sym (root-bare s t n kept.tree) ∙ same-is (node_name s t 0) w p) in absurd (omega arith)
      go (suc k, a, p) = rw (same-is (node_name s t (suc k)) w p) at (kept.ended (suc k) stop (omega arith) a l)

  module _ (p j e v w : ℕ) (from : i ≤ p) (read : attr_at s p ≡ Of j e v w) where
    named : 0 < length (part s j (e - j))
    named = let g = attr-read s p j e v w read in simp (length-take, length-drop) (omega arith)

    pub met : way s t (part s j (e - j)) ≡ None → take_at s at p ≡ Stuck
    unfolding take_at taken unless_named attr_named
    met q = let g = attr-read s p j e v w read in let h = found (part s j (e - j)) j named q (omega arith) in rw (read, ← h.1)

    unmet : (x : ℕ) → way s t (part s j (e - j)) ≡ Some x → take_at s at p ≡ take_at s i p
    unfolding take_at taken attr_named
    unmet x q =
        let g = attr-read s p j e v w read in
        let k = part s j (e - j) in
        rw (read, walk-rest (seek_at s k j) s (seek-goes s k j) at i (kept.seeking k x j q (omega arith)))

  -- ---- behind an attribute whose name was added

  module _ (j e v w : ℕ) (read : attr_at s i ≡ Of j e v w) (u : List ℕ) (room : n < nodes) (new : Grown s t u j e n) where
    unseen : take_at s at i ≡ Go w
    unfolding take_at taken unless_named seek_at sought attr_named
    unseen =
        let g = attr-read s i j e v w read in
        let k = part s j (e - j) in
        let stuck : seek_at s k j i ≡ Stuck = rw (read, le-leb j j (omega arith)) in
        let none = walk-stuck (seek_at s k j) s at i (kept.seeking k new.cell j new.free g.from) stuck in
        rw (read, ← none)

    seeks : (k : List ℕ) (y stop : ℕ) → way s (hung t new.cell n j e) k ≡ Some y → w ≤ stop → Walking (seek_at s k stop) s at w
    unfolding seek_at sought
    seeks k y stop h l =
        let g = attr-read s i j e v w read in
        let was = free_was s t n j e new.cell kept.tree new.free room k y h in
        let other = free_other s t n j e new.cell kept.tree new.free room k y h in
        let on : seek_at s k stop i ≡ Go w = rw (read, lt-leb stop j (omega arith), other) in
        walk-moves (seek_at s k stop) s at i (kept.seeking k was.0 stop was.1 (omega arith)) w on (omega arith) g.in-it

    hit : (stop : ℕ) → w ≤ stop → seek_at s (part s j (e - j)) stop i ≡ Stop v
    unfolding seek_at sought
    hit stop l = let g = attr-read s i j e v w read in rw (read, lt-leb stop j (omega arith), same_refl)

    ends : (k stop : ℕ) → 0 < k → k < n + 1 → w ≤ stop → (v : ℕ) × (Some v ≡ walk_at (seek_at s (node_name s (hung t new.cell n j e) k) stop) s at)
    ends k stop z m l = go (eqb k n) refl
      where
        go : (b : Bool) → eqb k n ≡ b → (v : ℕ) × (Some v ≡ walk_at (seek_at s (node_name s (hung t new.cell n j e) k) stop) s at)
        go true p =
            let g = attr-read s i j e v w read in
            let q = part s j (e - j) in
            let met = walk-stops (seek_at s q stop) s at i (kept.seeking q new.cell stop new.free (omega arith)) v (hit stop l) in
            rw (eqb-true k n p, hung-new s t n j e new.cell kept.tree new.free room) (v, met)
        go false p =
            let g = attr-read s i j e v w read in
            let o = eqb-false k n p in
            rw (hung-old s t n j e new.cell kept.tree new.free room k o) (kept.ended k stop z (omega arith) (omega arith))

    pub kept-moves : Kept s u at w (n + 1)
    kept-moves =
        let g = attr-read s i j e v w read in
        let l = kept.far in
        rw new.made (
        record {
          walking = walk-moves (take_at s at) s at i kept.walking w unseen (omega arith) g.in-it;
          within = g.in-it;
          tree = hung-tree s t n j e new.cell kept.tree new.free room (omega arith) (omega arith);
          far = omega arith;
          seeking = seeks;
          ended = ends;
        })

  -- ---- the attributes from i on

  -- a step with all attributes, with those from i on alone, and with the tree
  data Steps (p : ℕ) : Type 0 where
    goes : (w : ℕ) → i ≤ w → take_at s at p ≡ Go w → take_at s i p ≡ Go w → look_at s t p ≡ Go w → Steps p
    stops : (j : ℕ) → take_at s at p ≡ Stop j → take_at s i p ≡ Stop j → look_at s t p ≡ Stop j → Steps p
    stuck : take_at s at p ≡ Stuck → take_at s i p ≡ Stuck → Steps p
    seen : take_at s at p ≡ Stuck → look_at s t p ≡ Stuck → Steps p

  steps : (p : ℕ) → i ≤ p → Steps p
  unfolding take_at taken unless_named look_at looked apart
  steps p l = go (attr_at s p) refl
    where
      go : (x : Attr) → attr_at s p ≡ x → Steps p
      go (Of j e v w) q = free (way s t (part s j (e - j))) refl
        where
          own : (x : ℕ) → way s t (part s j (e - j)) ≡ Some x → (y : Option ℕ) → attr_named s (part s j (e - j)) i j ≡ y → Steps p
          own x f (Some k) h = let r : take_at s i p ≡ Stuck = rw (q, h) in stuck (unmet p j e v w l q x f ∙ r) r
          own x f None h =
              let r : take_at s i p ≡ Go w = rw (q, h) in
              let g = attr-read s p j e v w q in
              goes w (omega arith) (unmet p j e v w l q x f ∙ r) r (rw (q, f))

          free : (x : Option ℕ) → way s t (part s j (e - j)) ≡ x → Steps p
          free (Some x) f = own x f (attr_named s (part s j (e - j)) i j) refl
          free None f = seen (met p j e v w l q f) (rw (q, f))
      go (Last j) q = stops j (rw q) (rw q) (rw q)
      go Bad q = stuck (rw q) (rw q)

  -- they are taken if they are taken by themselves, and no node has the name of one
  walk-also : (m p : ℕ) → i ≤ p → walk (take_at s at) m p ≡ also (walk (take_at s i) m p) (walk (look_at s t) m p)
  unfolding walk stepped
  walk-also zero p l = refl
  walk-also (suc m) p l = go (steps p l) (walk-also m)
    where
      go : Steps p → ((p : ℕ) → i ≤ p → walk (take_at s at) m p ≡ also (walk (take_at s i) m p) (walk (look_at s t) m p))
          → stepped (take_at s at p) (walk (take_at s at) m) ≡ also (stepped (take_at s i p) (walk (take_at s i) m)) (stepped (look_at s t p) (walk (look_at s t) m))
      go (goes w g a b c) r = rw (a, b, c) (r w g)
      go (stops j a b c) r = rw (a, b, c)
      go (stuck a b) r = rw (a, b)
      go (seen a c) r = rw (a, c) (also-none (stepped (take_at s i p) (walk (take_at s i) m)))

  rest-also : walk_at (take_at s at) s at ≡ also (walk_at (take_at s i) s i) (walk_at (look_at s t) s i)
  rest-also = sym (walk-rest (take_at s at) s (take-goes s at) at i kept.walking) ∙ walk-also (suc (length s)) i (omega arith)

  pub rest-taken : (k : ℕ) → walk_at (take_at s i) s i ≡ Some k → walk_at (look_at s t) s i ≡ walk_at (take_at s at) s at
  rest-taken k q = sym (rw q at rest-also)

  pub rest-refused : walk_at (take_at s i) s i ≡ None → None ≡ walk_at (take_at s at) s at
  rest-refused q = sym (rw q at rest-also)
