-- What is kept of a tree has the elements of each name that is read: the tree's own, in their order.
--     leaves_kept, nodes-kept     in an element of any context but the alert's
--     leaves-from, nodes-from     in the alert, where nodes are its infos
use Prim.Native.Nat.{ℕ}
use Prim.Native.String.{String}
use mathlib.Core.Path.{◌≡◌, refl, sym, ap, ap₂, ◌∙◌}
use mathlib.Core.Bool.{Bool, true, false, ◌&&◌}
use mathlib.Core.List.{List, [], ◌∷◌, map}
use Rattle.octets.specs.Bytes.{pick, same}
use Rattle.octets.specs.Text.{bytes}
use Rattle.octets.proofs.Sames.{same-is}
use Rattle.markup.specs.Tree.{Tag, Forest, nil, text, elem}
use Rattle.reads.specs.Names.{info_inside, among, inside}
use Rattle.reads.specs.declared.Kept as infos
use Rattle.reads.specs.declared.Kept.TheVariants.{Nothing, First, Selected}
use Rattle.reads.specs.declared.Context.{Context}
use Rattle.reads.specs.declared.Context.TheVariants as ctx
use Rattle.gather.specs.Read.{Element, name_in, keep, named}
use Rattle.told.specs.Values.{is_english}
use Rattle.unread.specs.Kept.{KeptLeaf, leaf_by, KeptTree, done, leaf, node, Kind, skipped, leafy, inner, kind_of, kept_as, kept_in, next_to, kept_from}

-- ---- by name, in what is kept

-- the leaves of this name
abbrev pub leaves_of : String → KeptTree → List KeptLeaf
leaves_of w done = []
leaves_of w (leaf n l rest) = pick (same n (bytes w)) (l ∷ leaves_of w rest) (leaves_of w rest)
leaves_of w (node n t rest) = leaves_of w rest

-- the other elements of this name: what is kept of what each holds
abbrev pub nodes_of : String → KeptTree → List KeptTree
nodes_of w done = []
nodes_of w (leaf n l rest) = nodes_of w rest
nodes_of w (node n t rest) = pick (same n (bytes w)) (t ∷ nodes_of w rest) (nodes_of w rest)

module _ (w : String) (n : List ℕ) (l : KeptLeaf) (t rest : KeptTree) where
  -- an element of another name
  other-leaf : (k : Kind) → same n (bytes w) ≡ false → leaves_of w (kept_as k n l t rest) ≡ leaves_of w rest
  unfolding kept_as
  other-leaf skipped e = refl
  other-leaf leafy e = rw e
  other-leaf inner e = refl

  other-node : (k : Kind) → same n (bytes w) ≡ false → nodes_of w (kept_as k n l t rest) ≡ nodes_of w rest
  unfolding kept_as
  other-node skipped e = refl
  other-node leafy e = refl
  other-node inner e = rw e

  -- an element of this name
  this-node : (k : Kind) → k ≡ inner → same n (bytes w) ≡ true → nodes_of w (kept_as k n l t rest) ≡ t ∷ nodes_of w rest
  unfolding kept_as
  this-node k i e = rw (i, e)

  -- an element before others, where one of this name is read as a leaf
  leaf-step : (s : List ℕ) (x : Element) (xs : List Element) → leaf_by s x ≡ l → (k : Kind) → (n ≡ bytes w → k ≡ leafy) → map (leaf_by s) xs ≡ leaves_of w rest →
      map (leaf_by s) (keep (same n (bytes w)) x xs) ≡ leaves_of w (kept_as k n l t rest)
  unfolding kept_as
  leaf-step s x xs q k i f = go (same n (bytes w)) refl
    where
      go : (b : Bool) → same n (bytes w) ≡ b → map (leaf_by s) (keep b x xs) ≡ leaves_of w (kept_as k n l t rest)
      go true e = rw (i (same-is n (bytes w) e), e) (ap₂ (λ (y : KeptLeaf) (ys : List KeptLeaf). y ∷ ys) q f)
      go false e = f ∙ sym (other-leaf k e)

abbrev el : Tag → Forest → Element
el g kids = record { tag = g; holds = kids }

-- ---- in an element of any context but the alert

module _ (s p : List ℕ) where
  -- the leaves of a name that is read as one in the context c
  pub leaves_kept : (c : Context) (w : String) → kind_of (inside Nothing c (bytes w)) ≡ leafy → (t : Forest) →
      map (leaf_by s) (named s p w t) ≡ leaves_of w (kept_in s p c t)
  unfolding named kept_in
  leaves_kept c w i nil = refl
  leaves_kept c w i (text a b rest) = leaves_kept c w i rest
  leaves_kept c w i (elem g kids rest) =
      leaf-step w (name_in s p g) _ _ _ s (el g kids) (named s p w rest) refl (kind_of (inside Nothing c (name_in s p g)))
      (λ e. ap (λ (n : List ℕ). kind_of (inside Nothing c n)) e ∙ i) (leaves_kept c w i rest)

  -- what is kept of what an element of the context d holds
  abbrev pub in_by : Context → Element → KeptTree
  in_by d e = kept_in s p d e.holds

  -- the elements of a name that is read otherwise there
  pub nodes-kept : (c d : Context) (w : String) → inside Nothing c (bytes w) ≡ d → kind_of d ≡ inner → (t : Forest) →
      map (in_by d) (named s p w t) ≡ nodes_of w (kept_in s p c t)
  unfolding named kept_in
  nodes-kept c d w i j nil = refl
  nodes-kept c d w i j (text a b rest) = nodes-kept c d w i j rest
  nodes-kept c d w i j (elem g kids rest) = go (same (name_in s p g) (bytes w)) refl (nodes-kept c d w i j rest)
    where
      n : List ℕ
      n = name_in s p g

      x : Context
      x = inside Nothing c n

      go : (b : Bool) → same n (bytes w) ≡ b → map (in_by d) (named s p w rest) ≡ nodes_of w (kept_in s p c rest) →
          map (in_by d) (keep b (el g kids) (named s p w rest))
          ≡ nodes_of w (kept_as (kind_of x) n (leaf_by s (el g kids)) (kept_in s p x kids) (kept_in s p c rest))
      go true e f =
          let q : x ≡ d = ap (inside Nothing c) (same-is n (bytes w) e) ∙ i in
          ap₂ (λ (a : KeptTree) (y : List KeptTree). a ∷ y) (ap (λ (z : Context). kept_in s p z kids) (sym q)) f
          ∙ sym (this-node w n _ _ _ (kind_of x) (ap kind_of q ∙ j) e)
      go false e f = f ∙ sym (other-node w n _ _ _ (kind_of x) e)

-- ---- in the alert

module _ (s p : List ℕ) where
  pub leaves-from : (w : String) → ((n : infos.Kept) → kind_of (inside n ctx.Alert (bytes w)) ≡ leafy) → (n : infos.Kept) (t : Forest) →
      map (leaf_by s) (named s p w t) ≡ leaves_of w (kept_from s p n t)
  unfolding named kept_from
  leaves-from w i n nil = refl
  leaves-from w i n (text a b rest) = leaves-from w i n rest
  leaves-from w i n (elem g kids rest) =
      leaf-step w (name_in s p g) _ _ _ s (el g kids) (named s p w rest) refl (kind_of (inside n ctx.Alert (name_in s p g)))
      (λ e. ap (λ (x : List ℕ). kind_of (inside n ctx.Alert x)) e ∙ i n) (leaves-from w i (next_to s p n (el g kids)) rest)

  -- behind an info
  abbrev pub after_info : infos.Kept → Element → infos.Kept
  after_info n e = pick (is_english s p e) Selected n

  -- what is kept of infos, one after the other
  abbrev pub infos_from : infos.Kept → List Element → List KeptTree
  infos_from n [] = []
  infos_from n (e ∷ es) = kept_in s p (info_inside n) e.holds ∷ infos_from (after_info n e) es

  -- no info is skipped
  info-inner : (n : infos.Kept) → kind_of (info_inside n) ≡ inner
  unfolding kind_of
  info-inner Nothing = refl
  info-inner First = refl
  info-inner Selected = refl

  info-at : (n : infos.Kept) → inside n ctx.Alert (bytes "info") ≡ info_inside n
  unfolding inside among same bytes
  info-at n = refl

  pub nodes-from : (n : infos.Kept) (t : Forest) → infos_from n (named s p "info" t) ≡ nodes_of "info" (kept_from s p n t)
  unfolding named kept_from
  nodes-from n nil = refl
  nodes-from n (text a b rest) = nodes-from n rest
  nodes-from n (elem g kids rest) = go (same (name_in s p g) (bytes "info")) refl (λ m. nodes-from m rest)
    where
      w : List ℕ
      w = name_in s p g

      d : Context
      d = inside n ctx.Alert w

      go : (b : Bool) → same w (bytes "info") ≡ b → ((m : infos.Kept) → infos_from m (named s p "info" rest) ≡ nodes_of "info" (kept_from s p m rest)) →
          infos_from n (keep b (el g kids) (named s p "info" rest))
          ≡ nodes_of "info" (kept_as (kind_of d) w (leaf_by s (el g kids)) (kept_in s p d kids) (kept_from s p (next_to s p n (el g kids)) rest))
      go true e f =
          let q : d ≡ info_inside n = ap (inside n ctx.Alert) (same-is w (bytes "info") e) ∙ info-at n in
          let m : next_to s p n (el g kids) ≡ after_info n (el g kids) = ap (λ (b : Bool). pick (b && is_english s p (el g kids)) Selected n) e in
          ap₂ (λ (a : KeptTree) (y : List KeptTree). a ∷ y) (ap (λ (z : Context). kept_in s p z kids) (sym q))
          (f (after_info n (el g kids)) ∙ ap (λ (z : infos.Kept). nodes_of "info" (kept_from s p z rest)) (sym m))
          ∙ sym (this-node "info" w _ _ _ (kind_of d) (ap kind_of q ∙ info-inner n) e)
      go false e f =
          let m : next_to s p n (el g kids) ≡ n = ap (λ (b : Bool). pick (b && is_english s p (el g kids)) Selected n) e in
          f n ∙ ap (λ (z : infos.Kept). nodes_of "info" (kept_from s p z rest)) (sym m) ∙ sym (other-node "info" w _ _ _ (kind_of d) e)
