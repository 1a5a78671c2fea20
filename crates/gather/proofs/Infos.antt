-- What the content of an info adds.
--     info-ends, later-ends     an info, whole; and one behind the info that is selected
use Prim.Native.Nat.{ℕ, zero, suc}
use Prim.Native.String.{String}
use mathlib.Core.Path.{◌≡◌, refl, ap, ◌∙◌}
use mathlib.Core.Bool.{false}
use mathlib.Core.List.{List, [], ◌∷◌}
use lib.ListN.{length, get_or, set}
use Rattle.octets.specs.Bytes.{same}
use Rattle.octets.specs.Text.{bytes}
use Rattle.octets.proofs.Sames.{same_refl}
use Rattle.markup.specs.Tree.{Tag, Forest}
use Rattle.reads.specs.WorkingLeaves.{no_leaf, no_info}
use Rattle.reads.specs.WorkingSteps.{info_step, later_step}
use Rattle.reads.specs.Names.{among, inside, in_info, in_later, in_pair, in_area}
use Rattle.reads.specs.declared.Leaf.{Leaf}
use Rattle.reads.specs.declared.Events.{Events}
use Rattle.reads.specs.declared.Parameters.{Parameters}
use Rattle.reads.specs.declared.Locations.{Locations}
use Rattle.reads.specs.declared.Audio.{Audio}
use Rattle.reads.specs.declared.Info.{Info}
use Rattle.reads.specs.declared.Alert.{Alert}
use Rattle.reads.specs.declared.Context.{Context}
use Rattle.reads.specs.declared.Context.TheVariants as ctx
use Rattle.gather.specs.declared.Touch.TheVariants.{Holds}
use Rattle.gather.specs.WorkingVisit.{touch_in, pair_added, pair_left, info_left, later_left, left, context_in, visit}
use Rattle.gather.specs.Read.{name_in}
use Rattle.gather.specs.WorkingRead.{place_in, with_leaf, leaf_in, with_event, with_parameter, with_geocode, with_resource, with_area, info_of}
use Rattle.gather.proofs.Leaves.{state, el, info_with, leaves, blanks, in-skipped, info-leaf, pair-leaf}
use Rattle.gather.proofs.Contents.{names, tests, first_of, ◌&◌, else, Fold, none, in-content}

module _ (s p : List ℕ) where
  -- what an element of the context c leaves, whose leaves have the names w₁ and w₂
  abbrev Ends : Context → String → String → Type 0
  Ends c w₁ w₂ = (a : Alert) (i : Info) (g : Tag) (kids : Forest)
      → left s c (place_in s g) (visit s p c (state a i (blanks s)) kids) ≡ state a (pair_added s c i (leaf_in s p w₁ kids) (leaf_in s p w₂ kids)) (blanks s)

  -- an eventCode, a parameter, a geocode or a resource: two leaves, of the names w₁ and w₂
  pair_ends : (c : Context) (w₁ w₂ : String) → same (bytes w₁) (bytes w₂) ≡ false → same (bytes w₂) (bytes w₁) ≡ false
      → context_in s p c ≡ (λ st g. first_of (tests (name_in s p g) (w₁ ∷ w₂ ∷ [])) in_pair) → touch_in Holds c ≡ (λ st. st) → left s c ≡ (λ at st. pair_left s c st)
      → Ends c w₁ w₂
  unfolding left
  pair_ends c w₁ w₂ one two reads quiet closes a i g kids =
      (λ k. closes k (place_in s g) (visit s p c (state a i (blanks s)) kids))
      ∙ ap (pair_left s c) (in-content s p c (w₁ ∷ w₂ ∷ []) (λ x. in_pair) (λ x. state a i (leaves 2 x)) (λ F x j. F Leaf (with_leaf s) (x j) j)
      (λ x g k. reads k (state a i (leaves 2 x)) g) (λ x k. quiet k (state a i (leaves 2 x))) (λ x. refl) (λ x F G. refl)
      (λ x g kids. let leaf = pair-leaf s p a i (leaves 2 x) g kids in
      rw (same_refl (bytes w₁), one) (leaf 0) & rw (same_refl (bytes w₂), two) (leaf 1) & else (in-skipped s p kids (state a i (leaves 2 x))))
      kids (λ j. no_leaf (length s)))

  -- eventCode, parameter, geocode, resource
  pairs : Ends ctx.EventCode "valueName" "value" × Ends ctx.Parameter "valueName" "value" × Ends ctx.Geocode "valueName" "value" × Ends ctx.Resource "mimeType" "uri"
  unfolding left inside touch_in same bytes among
  pairs = (
    pair_ends _ _ _ refl refl refl refl refl,
    pair_ends _ _ _ refl refl refl refl refl,
    pair_ends _ _ _ refl refl refl refl refl,
    pair_ends _ _ _ refl refl refl refl refl,
  )

  -- an area
  abbrev located : Info → Locations → Info
  located i lo = record { leaf = i.leaf; events = i.events; parameters = i.parameters; locations = lo; audio = i.audio }

  area-ends : (a : Alert) (i : Info) (g : Tag) (kids : Forest)
      → left s ctx.Area (place_in s g) (visit s p ctx.Area (state a i (blanks s)) kids) ≡ state a (located i (with_area s p i.locations (el g kids))) (blanks s)
  unfolding left inside touch_in same bytes among pair_added
  area-ends a i g kids =
      in-content s p ctx.Area (names in_area) (λ lo. in_area) (λ lo. state a (located i lo) (blanks s)) (λ F lo. F Locations (with_geocode s p) lo 0)
      (λ lo g. refl) (λ lo. refl) (λ lo. refl) (λ lo F G. refl)
      (λ lo g kids. pairs.2 a (located i lo) g kids & else (in-skipped s p kids (state a (located i lo) (blanks s)))) kids i.locations

  -- the row of the leaf j; what is added to an info, row by row
  abbrev row : ℕ → ℕ
  row zero = 0
  row (suc j) = suc (suc j)

  abbrev info_by : Fold → Info → Info
  info_by F i = record {
    leaf = leaves 5 (λ j. F Leaf (with_leaf s) (get_or i.leaf j (no_leaf 0)) (row j));
    events = F Events (with_event s p) i.events 1;
    parameters = F Parameters (with_parameter s p) i.parameters 6;
    audio = F Audio (with_resource s p) i.audio 7;
    locations = F Locations (with_area s p) i.locations 8;
  }

  -- an info, whole; and one behind the info that is selected
  abbrev InfoEnds : Context → (Alert → Info → Alert) → Type 0
  InfoEnds c step = (a : Alert) (g : Tag) (kids : Forest)
      → left s c (place_in s g) (visit s p c (state a (no_info (length s)) (blanks s)) kids) ≡ state (step a (info_of s p kids)) (no_info (length s)) (blanks s)

  pub info-ends : InfoEnds ctx.Info (info_step s)
  unfolding left inside touch_in same bytes among pair_added info_of
  info-ends a g kids =
      ap (info_left s) (in-content s p ctx.Info (names in_info) (λ i. in_info) (λ i. state a (info_by none i) (blanks s)) info_by
      (λ i g. refl) (λ i. refl) (λ i. refl) (λ i F G. refl)
      (λ i g kids. let x = info_by none i in let leaf = info-leaf s p a x (blanks s) g kids in
      leaf 0 & pairs.0 a x g kids & leaf 1 & leaf 2 & leaf 3 & leaf 4 & pairs.1 a x g kids & pairs.3 a x g kids & area-ends a x g kids
      & else (in-skipped s p kids (state a x (blanks s)))) kids (no_info (length s)))

  pub later-ends : InfoEnds ctx.Later later_step
  unfolding left inside touch_in same bytes among info_of later_step
  later-ends a g kids =
      ap (later_left (length s)) (in-content s p ctx.Later (names in_later) (λ l. in_later) (λ l. state a (of l) (blanks s)) (λ F l. F Leaf (with_leaf s) l 0)
      (λ l g. refl) (λ l. refl) (λ l. refl) (λ l F G. refl)
      (λ l g kids. info-leaf s p a (of l) (blanks s) g kids 0 & else (in-skipped s p kids (state a (of l) (blanks s)))) kids (no_leaf (length s)))
    where
      of : Leaf → Info
      of l = info_with (set (no_info (length s)).leaf 0 l) (no_info (length s))
