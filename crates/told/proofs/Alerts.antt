-- The info that the pass selects, and what is at fault in it, are those that the tree tells.
--     selected-tells      what is read in the selected info
--     info-sound          a leaf that is read there and at fault
--     languages-fault     the language of any info at fault
use Prim.Native.Nat.{ℕ}
use mathlib.Core.Path.{◌≡◌, refl, ap, ap₂, ◌∙◌}
use mathlib.Core.Bool.{Bool, true, false, ◌&&◌, ◌||◌, not, not-not}
use mathlib.Core.List.{List, [], ◌∷◌, ◌++◌, map}
use Rattle.octets.specs.Bytes.{pick, every, holds, same}
use Rattle.octets.specs.Text.{bytes}
use Rattle.octets.proofs.Tests.{either_way}
use Rattle.markup.specs.Tree.{Forest}
use Rattle.values.specs.Value.{small}
use Rattle.reads.specs.WorkingSteps.{english, is_nothing}
use Rattle.gather.specs.Read.{Element, named}
use Rattle.gather.specs.WorkingRead.{info_of, language_in, from_english, selection, selected, languages_ok, alert_of}
use Rattle.message.specs.WorkingJudged.{info_ok}
use Rattle.leaves.proofs.Reals.{AllReal}
use Rattle.leaves.proofs.Places.{Reals, named-real}
use Rattle.told.specs.Values.{is_none, passing, sound, info_sound, is_english, held_by, selected_in, languages_sound}
use Rattle.told.proofs.Folds.{reals-append}
use Rattle.told.proofs.Leaves.{leaf-sound, leaf-value}
use Rattle.told.proofs.Infos.{events-fault, parameters-fault, resources-fault}
use Rattle.told.proofs.Locations.{locations-fault}

-- ---- a fault in an info

also : {a b : Bool} {cs ds : List Bool} → a ≡ b → cs ≡ ds → (a ∷ cs) ≡ (b ∷ ds)
also = ap₂ (λ (x : Bool) (xs : List Bool). x ∷ xs)

no-fault : {a b : Bool} → a ≡ not b → not a ≡ b
no-fault {b = b} h = ap not h ∙ not-not b

module _ (s p : List ℕ) where
  pub info-sound : (t : Forest) → AllReal s t → info_ok (info_of s p t) ≡ info_sound s p t
  unfolding info_ok info_of
  info-sound t r = ap (every holds)
      (also (leaf-sound s p "expires" t r)
      (also (leaf-sound s p "senderName" t r)
      (also (leaf-sound s p "description" t r)
      (also (leaf-sound s p "instruction" t r)
      (also (no-fault (events-fault s p t r))
      (also (no-fault (parameters-fault s p t r))
      (also (no-fault (locations-fault s p t r))
      (also (no-fault (resources-fault s p t r)) refl))))))))

  -- ---- the selected info

  pub english-is : (e : Element) → AllReal s e.holds → english s (language_in s p e) ≡ is_english s p e
  unfolding english bytes
  english-is e a = ap (λ (v : List ℕ). same v [] || same (map small v) (bytes "en-us")) (leaf-value s p "language" e.holds a)

  -- the first of such a language is the first of those that are
  first-held : (xs es : List Element) → Reals s xs → held_by (from_english s p xs ++ es) ≡ held_by (passing (is_english s p) xs ++ es)
  unfolding from_english
  first-held [] es r = refl
  first-held (x ∷ xs) es r = rw (english-is x r.1) (go (is_english s p x) (first-held xs es r.2))
    where
      go : (b : Bool) → held_by (from_english s p xs ++ es) ≡ held_by (passing (is_english s p) xs ++ es)
          → held_by (pick b (x ∷ xs) (from_english s p xs) ++ es) ≡ held_by (pick b (x ∷ passing (is_english s p) xs) (passing (is_english s p) xs) ++ es)
      go true h = refl
      go false h = h

  selected-held : (xs es : List Element) → selected s p xs es ≡ info_of s p (held_by (xs ++ es))
  unfolding selected info_of named
  selected-held [] [] = refl
  selected-held [] (e ∷ es) = refl
  selected-held (x ∷ xs) es = refl

  pub selected-tells : (t : Forest) → AllReal s t → (alert_of s p t).info ≡ info_of s p (selected_in s p t)
  unfolding alert_of
  selected-tells t r =
      selected-held (from_english s p (named s p "info" t)) (named s p "info" t)
      ∙ ap (info_of s p) (first-held (named s p "info" t) (named s p "info" t) (named-real s p "info" t r))

  pub selected-none : (t : Forest) → is_nothing (alert_of s p t).kept ≡ is_none (named s p "info" t)
  unfolding alert_of from_english selection
  selected-none t = go (named s p "info" t)
    where
      any : (xs : List Element) (e : Element) (es : List Element) → is_nothing (selection xs (e ∷ es)) ≡ false
      any [] e es = refl
      any (x ∷ xs) e es = refl

      go : (es : List Element) → is_nothing (selection (from_english s p es) es) ≡ is_none es
      go [] = refl
      go (e ∷ es) = any (from_english s p (e ∷ es)) e es

  -- ---- language, which is read in each

  languages-sound : (es : List Element) → Reals s es → languages_ok s p es ≡ every (λ (e : Element). sound s p "language" e.holds) es
  unfolding every
  languages-sound [] r = refl
  languages-sound (e ∷ es) r = ap₂ (λ (a b : Bool). a && b) (leaf-sound s p "language" e.holds r.1) (languages-sound es r.2)

  pub languages-fault : (t : Forest) → AllReal s t → (alert_of s p t).fault ≡ not (languages_sound s p t)
  unfolding alert_of
  languages-fault t r = ap not (languages-sound (named s p "info" t) (named-real s p "info" t r))

  -- ---- what the selected info holds

  passing-real : (f : Element → Bool) (es : List Element) → Reals s es → Reals s (passing f es)
  passing-real f [] r = tt
  passing-real f (e ∷ es) r = either_way (Reals s) (f e) _ _ (λ _. (r.0, r.1, passing-real f es r.2)) (λ _. passing-real f es r.2)

  held-real : (es : List Element) → Reals s es → AllReal s (held_by es)
  held-real [] r = tt
  held-real (e ∷ es) r = r.1

  pub selected-real : (t : Forest) → AllReal s t → AllReal s (selected_in s p t)
  selected-real t r =
      let es = named s p "info" t in
      let q = named-real s p "info" t r in
      held-real (passing (is_english s p) es ++ es) (reals-append s (passing (is_english s p) es) es (passing-real (is_english s p) es q) q)
