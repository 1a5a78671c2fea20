-- The tree of names: the way of a name through it, and what a new node changes.
--     way-starts, way-moves, way-ends, way-met     the loop that goes the way of a name: its beginning, a turn, and its ends
--     free-slot, met-node                          what stands where a way ends
--     tree-bare, hung-tree                         the tree of no names, and a tree with a new node
--     free_was, free_other                         a way that is free with the new node was free without it, and is not that of its name
use Prim.Native.Nat.{ℕ, zero, suc, ◌+◌, ◌-◌, ◌*◌, ◌<◌, ◌≤◌}
use mathlib.Core.Path.{◌≡◌, refl, sym, ap, ◌∙◌}
use mathlib.Core.Bool.{Bool, true, false}
use mathlib.Core.List.{List, []}
use native.Mathlib.Nat.{zero-sub}
use native.Mathlib.Omega.{arith}
use borrow.Author.Tests.{eqb-true, eqb-false}
use lib.Dec.{eqb}
use lib.ListN.{length, get_or, set, replicate, length-set, length-replicate}
use lib.Seq.{get_or-set_same, get_or-set_other}
use Rattle.octets.specs.Bytes.{pick, part, same}
use Rattle.octets.proofs.Sames.{same-is, same_refl}
use Rattle.octets.proofs.Tests.{never}
use Rattle.std.specs.Prelude.{Option, Some, None}
use Rattle.tags.specs.WorkingTree.{nodes, cells, bit_of, cell_of, node_name, node_on, way_from, way, NameTree, hung}

pub turn_small : (w : List ℕ) (d : ℕ) → bit_of w d < 2
unfolding bit_of
turn_small w d = omega arith

onward-on : (k x : ℕ) (rest : ℕ → Option ℕ) → 0 < k → node_on k x rest ≡ rest k
unfolding node_on
onward-on zero x rest h = absurd (omega arith)
onward-on (suc k) x rest h = refl

no-at : {A : Type 0} (x : ℕ) → None ≡ Some x → A
no-at x h = let z : ◌≡◌ {A = ℕ} 0 1 = cc in absurd (omega arith)

at-is : (x y : ℕ) → Some x ≡ Some y → x ≡ y
at-is x y h = cc

-- ---- trees

zeros : (m i : ℕ) → get_or (replicate {A = ℕ} m 0) i 0 ≡ 0
zeros zero i = refl
zeros (suc m) zero = refl
zeros (suc m) (suc i) = zeros m i

pub tree-bare : (s : List ℕ) → NameTree s (replicate {A = ℕ} cells 0) 1
tree-bare s =
    record {
      some = omega arith;
      fits = omega arith;
      long = length-replicate {A = ℕ} cells 0;
      root = zeros cells 1;
      begins = λ k. rw (zeros cells (4 * k), zeros cells (4 * k + 1)) (omega arith);
      ends = λ k. rw (zeros cells (4 * k + 1)) (omega arith);
      onto = λ k b l. rw (zeros cells (4 * k + 2 + b)) (omega arith);
      rises = λ k b l p. let z = zeros cells (4 * k + 2 + b) in absurd (omega arith);
    }

-- as many nodes as there can be
pub tree-full : (s t : List ℕ) (n : ℕ) → NameTree s t n → NameTree s t nodes
tree-full s t n tr =
    let x = tr.fits in
    record {
      some = omega arith;
      fits = omega arith;
      long = tr.long;
      root = tr.root;
      begins = tr.begins;
      ends = tr.ends;
      onto = λ k b l. let o = tr.onto k b l in omega arith;
      rises = tr.rises;
    }

pub root-bare : (s t : List ℕ) (n : ℕ) → NameTree s t n → node_name s t 0 ≡ []
unfolding node_name
root-bare s t n tr = rw (tr.root, zero-sub)

-- ---- the way of w

-- a free cell for the next node
pub record Slot (t : List ℕ) (n x : ℕ) : Type 0 where
  pub k : ℕ
  pub b : ℕ
  pub low : b < 2
  pub node : k < n
  pub is : x ≡ 4 * k + 2 + b
  pub free : get_or t x 0 ≡ 0

-- what is left of the way from node k on is the whole
pub record OnWay (s t w : List ℕ) (n d k : ℕ) : Type 0 where
  pub left : ℕ
  pub room : length t ≤ k + left
  pub node : k < n
  pub deep : d ≤ k
  pub whole : way_from s t w left d k ≡ way s t w

module _ (s t w : List ℕ) (n : ℕ) (tr : NameTree s t n) where
  way_slot : (x m d k : ℕ) → k < n → way_from s t w m d k ≡ Some x → Slot t n x
  unfolding way_from node_on
  way_slot x zero d k l h = no-at x h
  way_slot x (suc m) d k l h = go (same (node_name s t k) w) (get_or t (cell_of w d k) 0) refl h (way_slot x m (d + 1))
    where
      go : (b : Bool) (a : ℕ) → get_or t (cell_of w d k) 0 ≡ a → pick b None (node_on a (cell_of w d k) (way_from s t w m (d + 1))) ≡ Some x
          → ((k : ℕ) → k < n → way_from s t w m (d + 1) k ≡ Some x → Slot t n x) → Slot t n x
      go true a e h r = no-at x h
      go false zero e h r = let q = at-is (cell_of w d k) x h in record { k = k; b = bit_of w d; low = turn_small w d; node = l; is = sym q; free = rw (← q) e }
      go false (suc a) e h r = r (suc a) (rw e at (tr.onto k (bit_of w d) (turn_small w d))) h

  pub free-slot : (x : ℕ) → way s t w ≡ Some x → Slot t n x
  free-slot x h = way_slot x (length t) 0 0 tr.some h

  way-node : (m d k : ℕ) → k < n → length t ≤ k + m → way_from s t w m d k ≡ None → (q : ℕ) × (q < n) × (same (node_name s t q) w ≡ true)
  unfolding way_from node_on
  way-node zero d k l r h = let x = tr.fits in let y = tr.long in absurd (omega arith)
  way-node (suc m) d k l r h = go (same (node_name s t k) w) refl (get_or t (cell_of w d k) 0) refl h (way-node m (d + 1))
    where
      go : (b : Bool) → same (node_name s t k) w ≡ b → (a : ℕ) → get_or t (cell_of w d k) 0 ≡ a → pick b None (node_on a (cell_of w d k) (way_from s t w m (d + 1))) ≡ None
          → ((k : ℕ) → k < n → length t ≤ k + m → way_from s t w m (d + 1) k ≡ None → (q : ℕ) × (q < n) × (same (node_name s t q) w ≡ true))
          → (q : ℕ) × (q < n) × (same (node_name s t q) w ≡ true)
      go true p a e h f = (k, l, p)
      go false p zero e h f = no-at (cell_of w d k) (sym h)
      go false p (suc a) e h f =
          let o = tr.onto k (bit_of w d) (turn_small w d) in
          let i = tr.rises k (bit_of w d) (turn_small w d) (omega arith) in
          f (suc a) (omega arith) (omega arith) h

  pub met-node : way s t w ≡ None → (q : ℕ) × (q < n) × (same (node_name s t q) w ≡ true)
  met-node h = way-node (length t) 0 0 tr.some (omega arith) h

  pub way-starts : OnWay s t w n 0 0
  way-starts = record { left = length t; room = omega arith; node = tr.some; deep = omega arith; whole = refl }

  module _ (d k : ℕ) (on : OnWay s t w n d k) where
    pub way-met : same (node_name s t k) w ≡ true → None ≡ way s t w
    unfolding way_from
    way-met p = go on.left on.whole
      where
        go : (m : ℕ) → way_from s t w m d k ≡ way s t w → None ≡ way s t w
        go zero q = q
        go (suc m) q = sym (rw p) ∙ q

    pub way-ends : same (node_name s t k) w ≡ false → get_or t (cell_of w d k) 0 ≡ 0 → Some (cell_of w d k) ≡ way s t w
    unfolding way_from node_on
    way-ends p f = go on.left on.room on.whole
      where
        go : (m : ℕ) → length t ≤ k + m → way_from s t w m d k ≡ way s t w → Some (cell_of w d k) ≡ way s t w
        go zero r q = let x = on.node in let y = tr.fits in let z = tr.long in absurd (omega arith)
        go (suc m) r q = sym (rw (p, f)) ∙ q

    pub way-moves : same (node_name s t k) w ≡ false → 0 < get_or t (cell_of w d k) 0 → OnWay s t w n (d + 1) (get_or t (cell_of w d k) 0)
    unfolding way_from
    way-moves p f = go on.left on.room on.whole
      where
        go : (m : ℕ) → length t ≤ k + m → way_from s t w m d k ≡ way s t w → OnWay s t w n (d + 1) (get_or t (cell_of w d k) 0)
        go zero r q = let x = on.node in let y = tr.fits in let z = tr.long in absurd (omega arith)
        go (suc m) r q =
            let i = tr.rises k (bit_of w d) (turn_small w d) f in
            let x = on.deep in
            record {
              left = m;
              room = omega arith;
              node = tr.onto k (bit_of w d) (turn_small w d);
              deep = omega arith;
              whole = sym (onward-on (get_or t (cell_of w d k) 0) (cell_of w d k) (way_from s t w m (d + 1)) f) ∙ sym (rw p) ∙ q;
            }

-- ---- a new node

module _ (s t : List ℕ) (n j e x : ℕ) (tr : NameTree s t n) (free : way s t (part s j (e - j)) ≡ Some x) (room : n < nodes) where
  slot : Slot t n x
  slot = free-slot s t (part s j (e - j)) n tr x free

  hung-long : length (hung t x n j e) ≡ length t
  hung-long = simp length-set

  hung-other : (y : ℕ) → (y ≡ x → ⊥) → (y ≡ 4 * n → ⊥) → (y ≡ 4 * n + 1 → ⊥) → get_or (hung t x n j e) y 0 ≡ get_or t y 0
  hung-other y a b c =
      get_or-set_other (set (set t x n) (4 * n) j) (4 * n + 1) y e 0 c ∙ get_or-set_other (set t x n) (4 * n) y j 0 b ∙ get_or-set_other t x y n 0 a

  hung-begin : get_or (hung t x n j e) (4 * n) 0 ≡ j
  hung-begin =
      get_or-set_other (set (set t x n) (4 * n) j) (4 * n + 1) (4 * n) e 0 (λ q. omega arith)
      ∙ get_or-set_same (set t x n) (4 * n) j 0 (let z = tr.long in simp length-set (omega arith))

  hung-end : get_or (hung t x n j e) (4 * n + 1) 0 ≡ e
  hung-end = get_or-set_same (set (set t x n) (4 * n) j) (4 * n + 1) e 0 (let z = tr.long in simp length-set (omega arith))

  hung-link : get_or (hung t x n j e) x 0 ≡ n
  hung-link =
      let c = slot in
      let z = tr.long in
      get_or-set_other (set (set t x n) (4 * n) j) (4 * n + 1) x e 0 (λ q. omega arith)
      ∙ get_or-set_other (set t x n) (4 * n) x j 0 (λ q. omega arith)
      ∙ get_or-set_same t x n 0 (omega arith)

  hung-begins : (k : ℕ) → (k ≡ n → ⊥) → get_or (hung t x n j e) (4 * k) 0 ≡ get_or t (4 * k) 0
  hung-begins k ne = let c = slot in hung-other (4 * k) (λ q. omega arith) (λ q. ne (omega arith)) (λ q. omega arith)

  hung-ends : (k : ℕ) → (k ≡ n → ⊥) → get_or (hung t x n j e) (4 * k + 1) 0 ≡ get_or t (4 * k + 1) 0
  hung-ends k ne = let c = slot in hung-other (4 * k + 1) (λ q. omega arith) (λ q. omega arith) (λ q. ne (omega arith))

  hung-onto : (k b : ℕ) → b < 2 → (4 * k + 2 + b ≡ x → ⊥) → get_or (hung t x n j e) (4 * k + 2 + b) 0 ≡ get_or t (4 * k + 2 + b) 0
  hung-onto k b l ne = hung-other (4 * k + 2 + b) ne (λ q. omega arith) (λ q. omega arith)

  pub hung-old : (k : ℕ) → (k ≡ n → ⊥) → node_name s (hung t x n j e) k ≡ node_name s t k
  unfolding node_name
  hung-old k ne = rw (hung-begins k ne, hung-ends k ne)

  pub hung-new : node_name s (hung t x n j e) n ≡ part s j (e - j)
  unfolding node_name
  hung-new = rw (hung-begin, hung-end)

  pub hung-tree : j ≤ e → e ≤ length s → NameTree s (hung t x n j e) (n + 1)
  hung-tree je es =
      record {
        some = omega arith;
        fits = omega arith;
        long = hung-long ∙ tr.long;
        root = root;
        begins = λ k. begins k (eqb k n) refl;
        ends = λ k. ends k (eqb k n) refl;
        onto = λ k b l. onto k b l (eqb (4 * k + 2 + b) x) refl;
        rises = λ k b l. rises k b l (eqb (4 * k + 2 + b) x) refl;
      }
    where
      root : get_or (hung t x n j e) 1 0 ≡ 0
      root = let c = slot in let i = tr.some in hung-other 1 (λ q. omega arith) (λ q. omega arith) (λ q. omega arith) ∙ tr.root

      begins : (k : ℕ) (c : Bool) → eqb k n ≡ c → get_or (hung t x n j e) (4 * k) 0 ≤ get_or (hung t x n j e) (4 * k + 1) 0
      begins k true p = rw (eqb-true k n p, hung-begin, hung-end) je
      begins k false p = rw (hung-begins k (eqb-false k n p), hung-ends k (eqb-false k n p)) (tr.begins k)

      ends : (k : ℕ) (c : Bool) → eqb k n ≡ c → get_or (hung t x n j e) (4 * k + 1) 0 ≤ length s
      ends k true p = rw (eqb-true k n p, hung-end) es
      ends k false p = rw (hung-ends k (eqb-false k n p)) (tr.ends k)

      onto : (k b : ℕ) → b < 2 → (c : Bool) → eqb (4 * k + 2 + b) x ≡ c → get_or (hung t x n j e) (4 * k + 2 + b) 0 < n + 1
      onto k b l true p = rw (eqb-true (4 * k + 2 + b) x p, hung-link) (omega arith)
      onto k b l false p = let o = tr.onto k b l in rw (hung-onto k b l (eqb-false (4 * k + 2 + b) x p)) (omega arith)

      rises : (k b : ℕ) → b < 2 → (c : Bool) → eqb (4 * k + 2 + b) x ≡ c → 0 < get_or (hung t x n j e) (4 * k + 2 + b) 0 → k < get_or (hung t x n j e) (4 * k + 2 + b) 0
      rises k b l true p h = let q = eqb-true (4 * k + 2 + b) x p in let c = slot in rw (q, hung-link) (omega arith)
      rises k b l false p h = let q = hung-onto k b l (eqb-false (4 * k + 2 + b) x p) in rw q (tr.rises k b l (rw q at h))

  -- a cell that held a node holds it still
  hung-still : (w : List ℕ) (d k a : ℕ) → get_or t (cell_of w d k) 0 ≡ suc a → get_or (hung t x n j e) (cell_of w d k) 0 ≡ suc a
  hung-still w d k a q =
      let f = slot.free in
      hung-onto k (bit_of w d) (turn_small w d) (λ p. let i : get_or t (cell_of w d k) 0 ≡ 0 = rw p f in omega arith) ∙ q

  way-was : (w : List ℕ) (m d k y : ℕ) → k < n → way_from s (hung t x n j e) w m d k ≡ Some y → (z : ℕ) × (way_from s t w m d k ≡ Some z)
  unfolding way_from node_on
  way-was w zero d k y l h = no-at y h
  way-was w (suc m) d k y l h = go (same (node_name s t k) w) (get_or t (cell_of w d k) 0) refl (rw (hung-old k (λ q. omega arith)) at h) (way-was w m (d + 1))
    where
      go : (b : Bool) (a : ℕ) → get_or t (cell_of w d k) 0 ≡ a
          → pick b None (node_on (get_or (hung t x n j e) (cell_of w d k) 0) (cell_of w d k) (way_from s (hung t x n j e) w m (d + 1))) ≡ Some y
          → ((k y : ℕ) → k < n → way_from s (hung t x n j e) w m (d + 1) k ≡ Some y → (z : ℕ) × (way_from s t w m (d + 1) k ≡ Some z))
          → (z : ℕ) × (pick b None (node_on a (cell_of w d k) (way_from s t w m (d + 1))) ≡ Some z)
      go true a q h r = no-at y h
      go false zero q h r = (cell_of w d k, refl)
      go false (suc a) q h r = let o = tr.onto k (bit_of w d) (turn_small w d) in r (suc a) y (omega arith) (rw (hung-still w d k a q) at h)

  way-not : (w : List ℕ) → w ≡ part s j (e - j) → (m d k y : ℕ) → k < n → way_from s t w m d k ≡ Some x → way_from s (hung t x n j e) w m d k ≡ Some y → ⊥
  unfolding way_from node_on
  way-not w v zero d k y l g h = no-at y h
  way-not w v (suc m) d k y l g h = go (same (node_name s t k) w) (get_or t (cell_of w d k) 0) refl g (rw (hung-old k (λ q. omega arith)) at h) (way-not w v m (d + 1))
    where
      new : (m d y : ℕ) → way_from s (hung t x n j e) w m d n ≡ Some y → ⊥
      new zero d y h = no-at y h
      new (suc m) d y h = no-at y (rw (hung-new, v, same_refl) at h)

      go : (b : Bool) (a : ℕ) → get_or t (cell_of w d k) 0 ≡ a
          → pick b None (node_on a (cell_of w d k) (way_from s t w m (d + 1))) ≡ Some x
          → pick b None (node_on (get_or (hung t x n j e) (cell_of w d k) 0) (cell_of w d k) (way_from s (hung t x n j e) w m (d + 1))) ≡ Some y
          → ((k y : ℕ) → k < n → way_from s t w m (d + 1) k ≡ Some x → way_from s (hung t x n j e) w m (d + 1) k ≡ Some y → ⊥)
          → ⊥
      go true a q g h r = no-at y h
      go false zero q g h r =
          let z = at-is (cell_of w d k) x g in
          let f : get_or (hung t x n j e) (cell_of w d k) 0 ≡ n = rw z hung-link in
          new m (d + 1) y (sym (onward-on n (cell_of w d k) (way_from s (hung t x n j e) w m (d + 1)) tr.some) ∙ (rw f at h))
      go false (suc a) q g h r = let o = tr.onto k (bit_of w d) (turn_small w d) in r (suc a) y (omega arith) g (rw (hung-still w d k a q) at h)

  pub free_was : (w : List ℕ) (y : ℕ) → way s (hung t x n j e) w ≡ Some y → (z : ℕ) × (way s t w ≡ Some z)
  free_was w y h = way-was w (length t) 0 0 y tr.some (rw hung-long at h)

  pub free_other : (w : List ℕ) (y : ℕ) → way s (hung t x n j e) w ≡ Some y → same (part s j (e - j)) w ≡ false
  free_other w y h = never (same (part s j (e - j)) w) no
    where
      no : same (part s j (e - j)) w ≡ true → ⊥
      no p = let v = sym (same-is (part s j (e - j)) w p) in way-not w v (length t) 0 0 y tr.some (ap (way s t) v ∙ free) (rw hung-long at h)
