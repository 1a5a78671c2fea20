-- What is held by an element adds what its elements of each name add, whatever else stands between them.
--     in-content     the pass over it, name by name
use Prim.Native.Nat.{ℕ, zero, suc}
use Prim.Native.String.{String}
use mathlib.Core.Path.{◌≡◌, refl, ap, ◌∙◌}
use mathlib.Core.Bool.{Bool, true, false}
use mathlib.Core.List.{List, [], ◌∷◌, map, foldl}
use lib.ListN.{get_or}
use Rattle.octets.specs.Bytes.{pick, same}
use Rattle.octets.specs.Text.{bytes}
use Rattle.octets.proofs.Sames.{same-is}
use Rattle.markup.specs.Tree.{Tag, Forest, nil, text, elem}
use Rattle.reads.specs.Names.{ReadElement}
use Rattle.reads.specs.declared.State.{State}
use Rattle.reads.specs.declared.Context.{Context}
use Rattle.reads.specs.declared.Context.TheVariants as ctx
use Rattle.gather.specs.declared.Touch.TheVariants.{Holds}
use Rattle.gather.specs.WorkingVisit.{touch_in, left, context_in, visit}
use Rattle.gather.specs.Read.{Element, name_in, keep, named}
use Rattle.gather.specs.WorkingRead.{place_in}
use Rattle.gather.proofs.Leaves.{el}

abbrev pub names : List ReadElement → List String
names rs = map (λ r. r.name) rs

-- which of these names n is
abbrev pub tests : List ℕ → List String → List Bool
tests n ws = map (λ w. same n (bytes w)) ws

-- the context inside the first row whose test is true
abbrev pub first_of : List Bool → List ReadElement → Context
first_of [] rs = ctx.Skipped
first_of (b ∷ bs) [] = ctx.Skipped
first_of (b ∷ bs) (r ∷ rs) = pick b r.inside (first_of bs rs)

-- what holds if the name is each of vs, and if it is none of ws
infixr 20 ◌&◌
pub data Rows (F : List Bool → Type 0) (ws : List String) : List String → Type 0 where
  else : F (map (λ w. false) ws) → Rows F ws []
  ◌&◌ : {v : String} {vs : List String} → F (tests (bytes v) ws) → Rows F ws vs → Rows F ws (v ∷ vs)

-- then it holds, whatever the name is
module _ (F : List Bool → Type 0) (n : List ℕ) (ws : List String) where
  abbrev None : List String → Type 0
  None vs = map (λ w. false) vs ≡ tests n vs

  by_rows : (vs : List String) → (None vs → None ws) → Rows F ws vs → F (tests n ws)
  by_rows [] fails (else r) = rw (← fails refl) r
  by_rows (v ∷ vs) fails (r & rs) = go (same n (bytes v)) refl (λ q. by_rows vs q rs)
    where
      go : (b : Bool) → same n (bytes v) ≡ b → ((None vs → None ws) → F (tests n ws)) → F (tests n ws)
      go true e on = rw (same-is n (bytes v) e) r
      go false e on = on (λ q. fails (rw (e, q)))

-- one element, if it is of the name, and those behind it
fold-keep : {A : Type 0} (f : A → Element → A) (x : A) (b : Bool) (e : Element) (es : List Element) → foldl f (foldl f x (keep b e [])) es ≡ foldl f x (keep b e es)
fold-keep f x true e es = refl
fold-keep f x false e es = refl

-- what the elements of the name j add to x, one by one
abbrev pub Fold : Type 1
Fold = (A : Type 0) → (A → Element → A) → A → ℕ → A

abbrev pub none : Fold
none A f x j = x

abbrev pub folded : (ℕ → List Element) → Fold
folded es A f x j = foldl f x (es j)

module _ (s p : List ℕ) where
  -- the elements of each name
  abbrev pub heaps : List String → Forest → ℕ → List Element
  heaps ws t j = get_or (map (λ w. named s p w t) ws) j []

  heaps-nil : (ws : List String) (j : ℕ) → [] ≡ heaps ws nil j
  unfolding named
  heaps-nil [] j = refl
  heaps-nil (w ∷ ws) zero = refl
  heaps-nil (w ∷ ws) (suc j) = heaps-nil ws j

  -- what is held in the context c, where the rows are read, of the names ws: x is what has been gathered, `state x` its state, `by f x` what is added to it
  module _ {X : Type 0} (c : Context) (ws : List String) (rows : X → List ReadElement) (state : X → State) (by : Fold → X → X) where
    -- an element that is of a name by these tests, or of none
    abbrev pub Adds : X → Tag → Forest → List Bool → Type 0
    Adds x g kids bs =
        left s (first_of bs (rows x)) (place_in s g) (visit s p (first_of bs (rows x)) (state x) kids)
        ≡ state (by (folded (λ j. keep (get_or bs j false) (el g kids) [])) x)

    module _ (reads : (x : X) (g : Tag) → context_in s p c (state x) g ≡ first_of (tests (name_in s p g) ws) (rows x)) (quiet : (x : X) → touch_in Holds c (state x) ≡ state x)
        (idle : (x : X) → state x ≡ state (by none x)) (joins : (x : X) (F G : Fold) → state (by G (by F x)) ≡ state (by (λ A f y j. G A f (F A f y j) j) x))
        (each : (x : X) (g : Tag) (kids : Forest) → Rows (Adds x g kids) ws ws) where
      pub in-content : (t : Forest) (x : X) → visit s p c (state x) t ≡ state (by (folded (heaps ws t)) x)
      unfolding visit named
      in-content nil x = idle x ∙ (λ i. state (by (folded (λ j. heaps-nil ws j i)) x))
      in-content (text i j rest) x = in-content rest x
      in-content (elem g kids rest) x =
          rw (reads x g, quiet x) (ap (λ (z : State). visit s p c z rest) (by_rows (Adds x g kids) (name_in s p g) ws ws (λ q. q) (each x g kids))
          ∙ in-content rest _
          ∙ joins x (folded (λ j. keep (get_or (tests (name_in s p g) ws) j false) (el g kids) [])) (folded (heaps ws rest))
          ∙ (λ i. state (by (λ A f y j. more ws A f y j i) x)))
        where
          more : (ws : List String) (A : Type 0) (f : A → Element → A) (y : A) (j : ℕ)
              → foldl f (foldl f y (keep (get_or (tests (name_in s p g) ws) j false) (el g kids) [])) (heaps ws rest j) ≡ foldl f y (heaps ws (elem g kids rest) j)
          more [] A f y j = refl
          more (w ∷ ws) A f y zero = fold-keep f y (same (name_in s p g) (bytes w)) (el g kids) (named s p w rest)
          more (w ∷ ws) A f y (suc j) = more ws A f y j
