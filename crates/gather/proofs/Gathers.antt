-- What the pass gathers is what document 01 reads, by name, in the tree.
--     gathers     the pass over an alert's content gathers what is read in it
use Prim.Native.Nat.{ℕ}
use mathlib.Core.Path.{◌≡◌, refl, ap, ◌∙◌}
use mathlib.Core.Bool.{Bool, true, false}
use mathlib.Core.List.{List}
use lib.ListN.{length}
use Rattle.octets.specs.Bytes.{pick, same}
use Rattle.octets.specs.Text.{bytes}
use Rattle.markup.specs.Tree.{Tag, Forest}
use Rattle.reads.specs.WorkingLeaves.{no_leaf, no_info, nothing_read}
use Rattle.reads.specs.WorkingSteps.{english, is_nothing, info_step, later_step}
use Rattle.reads.specs.Names.{info_inside, among, inside, in_alert}
use Rattle.reads.specs.declared.Leaf.{Leaf}
use Rattle.reads.specs.declared.Alert.{Alert}
use Rattle.reads.specs.declared.Info.{Info}
use Rattle.reads.specs.declared.Kept.{Kept}
use Rattle.reads.specs.declared.Kept.TheVariants.{Nothing, First, Selected}
use Rattle.reads.specs.declared.State.{State}
use Rattle.reads.specs.declared.Context.TheVariants as ctx
use Rattle.gather.specs.WorkingVisit.{touch_in, left, visit}
use Rattle.gather.specs.Read.{named}
use Rattle.gather.specs.WorkingRead.{place_in, with_leaf, leaf_in, info_of, alert_of}
use Rattle.gather.proofs.Leaves.{state, el, alert_with, leaves, blanks, in-skipped, alert-leaf}
use Rattle.gather.proofs.Contents.{names, ◌&◌, else, Fold, in-content}
use Rattle.gather.proofs.Infos.{info-ends, later-ends}
use Rattle.gather.proofs.Selects.{kept_as, keep_step, kept-is}

with-pick : (ls : List Leaf) (b : Bool) (x y : Alert) → pick b (alert_with ls x) (alert_with ls y) ≡ alert_with ls (pick b x y)
with-pick ls true x y = refl
with-pick ls false x y = refl

module _ (s p : List ℕ) where
  abbrev at : Alert → State
  at a = state a (no_info (length s)) (blanks s)

  -- an info, before one is selected, and whenever
  before : (ls : List Leaf) (a : Alert) (g : Tag) (kids : Forest)
      → left s ctx.Info (place_in s g) (visit s p ctx.Info (at (alert_with ls a)) kids) ≡ at (alert_with ls (info_step s a (info_of s p kids)))
  unfolding info_step info_of
  before ls a g kids =
      let b = english s (leaf_in s p "language" kids) in
      info-ends s p (alert_with ls a) g kids ∙ ap at (ap (pick b _) (with-pick ls (is_nothing a.kept) _ _) ∙ with-pick ls b _ _)

  an-info : (ls ms : List Leaf) (n : Kept) (i : Info) (f : Bool) (g : Tag) (kids : Forest) → let a = alert_with ms (kept_as n i f) in
      left s (info_inside n) (place_in s g) (visit s p (info_inside n) (at (alert_with ls a)) kids) ≡ at (alert_with ls (keep_step s p a (el g kids)))
  unfolding later_step
  an-info ls ms Nothing i f = before ls (alert_with ms (kept_as Nothing i f))
  an-info ls ms First i f = before ls (alert_with ms (kept_as First i f))
  an-info ls ms Selected i f = later-ends s p (alert_with ls (kept_as Selected i f))

  -- the leaves, and the alert that keeps its infos: as one, and what is added to them, row by row
  abbrev both : (ℕ → Leaf) × Alert → Alert
  both x = alert_with (leaves 7 x.0) x.1

  abbrev alert_by : Fold → (ℕ → Leaf) × Alert → (ℕ → Leaf) × Alert
  alert_by F x = (λ j. F Leaf (with_leaf s) (x.0 j) j, F Alert (keep_step s p) x.1 7)

  -- the pass over an alert's content gathers what is read in it
  pub gathers : (t : Forest) → visit s p ctx.Alert (nothing_read (length s)) t ≡ state (alert_of s p t) (no_info (length s)) (blanks s)
  unfolding left inside touch_in same bytes among alert_of
  gathers t =
      in-content s p ctx.Alert (names (in_alert Nothing)) (λ x. in_alert x.1.kept) (λ x. at (both x)) alert_by (λ x g. refl) (λ x. refl) (λ x. refl) (λ x F G. refl)
      (λ x g kids. let leaf = alert-leaf s p (both x) (no_info (length s)) (blanks s) g kids in let a = x.1 in
      leaf 0 & leaf 1 & leaf 2 & leaf 3 & leaf 4 & leaf 5 & leaf 6 & an-info (leaves 7 x.0) a.leaf a.kept a.info a.fault g kids
      & else (in-skipped s p kids (at (both x))))
      t (λ j. no_leaf (length s), kept_as Nothing (no_info (length s)) false)
      ∙ ap (λ (a : Alert). at (alert_with (alert_of s p t).leaf a)) (kept-is s p (named s p "info" t))
