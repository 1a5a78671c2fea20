-- What the pass makes of the content of an element that is skipped, and of a leaf.
--     in-skipped                            what is skipped adds nothing
--     alert-leaf, info-leaf, pair-leaf      an element that is a leaf is added to it, marked where it holds an element
use Prim.Native.Nat.{ℕ, zero, suc}
use mathlib.Core.Path.{◌≡◌, refl, ap, ◌∙◌}
use mathlib.Core.Bool.{Bool, true, false, not}
use mathlib.Core.List.{List, [], ◌∷◌}
use lib.ListN.{length, get_or, set}
use lib.Dec.{ltb}
use Rattle.octets.specs.Bytes.{pick}
use Rattle.markup.specs.Tree.{Tag, Forest, nil, text, elem}
use Rattle.reads.specs.WorkingLeaves.{no_leaf, marked, found}
use Rattle.reads.specs.Names.{inside}
use Rattle.reads.specs.declared.Leaf.{Leaf}
use Rattle.reads.specs.declared.Info.{Info}
use Rattle.reads.specs.declared.Alert.{Alert}
use Rattle.reads.specs.declared.State.{State}
use Rattle.reads.specs.declared.Context.{Context}
use Rattle.reads.specs.declared.Context.TheVariants as ctx
use Rattle.gather.specs.declared.Touch.{Touch}
use Rattle.gather.specs.declared.Touch.TheVariants.{Holds, Stands}
use Rattle.gather.specs.WorkingVisit.{touched, touched_at, touch_in, left, context_in, visit}
use Rattle.gather.specs.Read.{Element, bare}
use Rattle.gather.specs.WorkingRead.{place_in, marked_if, with_leaf}

abbrev pub state : Alert → Info → List Leaf → State
state a i q = record { alert = a; info = i; pair = q }

abbrev pub el : Tag → Forest → Element
el g kids = record { tag = g; holds = kids }

-- with these leaves
abbrev pub alert_with : List Leaf → Alert → Alert
alert_with ls a = record { leaf = ls; kept = a.kept; info = a.info; fault = a.fault }

abbrev pub info_with : List Leaf → Info → Info
info_with ls i = record { leaf = ls; events = i.events; parameters = i.parameters; locations = i.locations; audio = i.audio }

-- the n leaves that stand at these places
abbrev pub leaves : ℕ → (ℕ → Leaf) → List Leaf
leaves zero x = []
leaves (suc n) x = x zero ∷ leaves n (λ j. x (suc j))

abbrev pub blanks : List ℕ → List Leaf
blanks s = leaves 2 (λ j. no_leaf (length s))

-- ---- the leaf at k, of n

abbrev changed : ℕ → ℕ → (Leaf → Leaf) → List Leaf → List Leaf
changed n k f ls = pick (ltb k n) (set ls k (f (get_or ls k (no_leaf 0)))) ls

-- what is made of it after it was marked
after-mark : (n k : ℕ) (f : Leaf → Leaf) (ls : List Leaf) → changed n k f (changed n k marked ls) ≡ changed n k (λ l. f (marked l)) ls
after-mark n k f ls = go (ltb k n)
  where
    in_list : (k : ℕ) (ls : List Leaf)
        → let ms = set ls k (marked (get_or ls k (no_leaf 0))) in set ms k (f (get_or ms k (no_leaf 0))) ≡ set ls k (f (marked (get_or ls k (no_leaf 0))))
    in_list k [] = refl
    in_list zero (l ∷ ls) = refl
    in_list (suc k) (l ∷ ls) = ap (λ (ms : List Leaf). l ∷ ms) (in_list k ls)

    go : (b : Bool) → let ms = pick b (set ls k (marked (get_or ls k (no_leaf 0)))) ls in
        pick b (set ms k (f (get_or ms k (no_leaf 0)))) ms ≡ pick b (set ls k (f (marked (get_or ls k (no_leaf 0))))) ls
    go true = in_list k ls
    go false = refl

-- with one more element of it, which begins at a place; b is that it holds none
grown : (n k at : ℕ) (ls : List Leaf) (b : Bool)
    → touched_at n (Stands at) k (pick b ls (touched_at n Holds k ls)) ≡ changed n k (λ l. found (marked_if (not b) l) at) ls
unfolding touched
grown n k at ls true = refl
grown n k at ls false = after-mark n k (λ l. found l at) ls

module _ (s p : List ℕ) where
  pub in-skipped : (t : Forest) (st : State) → visit s p ctx.Skipped st t ≡ st
  unfolding visit inside touch_in left
  in-skipped nil st = refl
  in-skipped (text i j rest) st = in-skipped rest st
  in-skipped (elem g kids rest) st = ap (λ (x : State). visit s p ctx.Skipped x rest) (in-skipped kids st) ∙ in-skipped rest st

  -- an element that is a leaf, the one at k of n: `put` is the state of such leaves
  abbrev LeafEnds : Context → ℕ → ℕ → (List Leaf → State) → List Leaf → Tag → Forest → Type 0
  LeafEnds c n k put ls g kids = left s c (place_in s g) (visit s p c (put ls) kids) ≡ put (changed n k (λ l. with_leaf s l (el g kids)) ls)

  module _ (c : Context) (n k : ℕ) (put : List Leaf → State)
      (skips : (st : State) (g : Tag) → context_in s p c st g ≡ ctx.Skipped)
      (touches : (t : Touch) (ls : List Leaf) → touch_in t c (put ls) ≡ put (touched_at n t k ls)) where
    in_leaf : (t : Forest) (ls : List Leaf) → visit s p c (put ls) t ≡ put (pick (bare t) ls (touched_at n Holds k ls))
    unfolding visit bare left touched
    in_leaf nil ls = refl
    in_leaf (text i j rest) ls = in_leaf rest ls
    in_leaf (elem g kids rest) ls =
        rw (skips (put ls) g, touches Holds ls) (ap (λ (x : State). visit s p c x rest) (in-skipped kids (put (touched_at n Holds k ls))))
        ∙ in_leaf rest (touched_at n Holds k ls) ∙ ap put (go (bare rest))
      where
        go : (b : Bool) → pick b (touched_at n Holds k ls) (touched_at n Holds k (touched_at n Holds k ls)) ≡ touched_at n Holds k ls
        go true = refl
        go false = after-mark n k marked ls

    leaf-ends : ((at : ℕ) (st : State) → left s c at st ≡ touch_in (Stands at) c st) → (ls : List Leaf) (g : Tag) (kids : Forest) → LeafEnds c n k put ls g kids
    leaf-ends ends ls g kids =
        rw (in_leaf kids ls) (ends (place_in s g) _ ∙ touches (Stands (place_in s g)) _ ∙ ap put (grown n k (place_in s g) ls (bare kids)))

  -- one of an alert, of an info, of a pair
  module _ (a : Alert) (i : Info) (q : List Leaf) (g : Tag) (kids : Forest) (k : ℕ) where
    pub alert-leaf : LeafEnds (ctx.AlertLeaf k) 7 k (λ ls. state (alert_with ls a) i q) a.leaf g kids
    unfolding left inside touch_in
    alert-leaf = leaf-ends (ctx.AlertLeaf k) 7 k (λ ls. state (alert_with ls a) i q) (λ st g. refl) (λ t ls. refl) (λ at st. refl) a.leaf g kids

    pub info-leaf : LeafEnds (ctx.InfoLeaf k) 5 k (λ ls. state a (info_with ls i) q) i.leaf g kids
    unfolding left inside touch_in
    info-leaf = leaf-ends (ctx.InfoLeaf k) 5 k (λ ls. state a (info_with ls i) q) (λ st g. refl) (λ t ls. refl) (λ at st. refl) i.leaf g kids

    pub pair-leaf : LeafEnds (ctx.PairLeaf k) 2 k (state a i) q g kids
    unfolding left inside touch_in
    pair-leaf = leaf-ends (ctx.PairLeaf k) 2 k (state a i) (λ st g. refl) (λ t ls. refl) (λ at st. refl) q g kids
