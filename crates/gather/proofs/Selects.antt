-- The info that is selected, kept info by info: the first in English, or else the first.
--     kept-is     what is kept when all have been read
use Prim.Native.Nat.{ℕ}
use mathlib.Core.Path.{◌≡◌, refl, ap, ◌∙◌}
use mathlib.Core.Bool.{Bool, true, false, not, ◌||◌, ◌&&◌}
use mathlib.Core.List.{List, [], ◌∷◌, foldl}
use lib.ListN.{length}
use Rattle.octets.specs.Bytes.{pick, every}
use Rattle.reads.specs.WorkingLeaves.{sound_of, no_info}
use Rattle.reads.specs.WorkingSteps.{english, info_step, later_step}
use Rattle.reads.specs.declared.Info.{Info}
use Rattle.reads.specs.declared.Alert.{Alert}
use Rattle.reads.specs.declared.Kept.{Kept}
use Rattle.reads.specs.declared.Kept.TheVariants.{Nothing, First, Selected}
use Rattle.gather.specs.Read.{Element}
use Rattle.gather.specs.WorkingRead.{info_of, language_in, from_english, selection, selected, languages_ok}

-- an alert, of which only what it keeps of its infos counts
abbrev pub kept_as : Kept → Info → Bool → Alert
kept_as n i f = record { leaf = []; kept = n; info = i; fault = f }

abbrev is_selected : Kept → Bool
is_selected Nothing = false
is_selected First = false
is_selected Selected = true

-- one more fault, and those of the rest
one_more : (f b r : Bool) → ((f || not b) || not r) ≡ (f || not (b && r))
one_more true b r = refl
one_more false true r = refl
one_more false false r = refl

no_more : (f : Bool) → f ≡ (f || not true)
no_more true = refl
no_more false = refl

module _ (s p : List ℕ) where
  -- the fault of an info's language; of those of all
  abbrev faulted : Bool → Element → Bool
  faulted f e = f || not (sound_of (language_in s p e))

  abbrev faults : Bool → List Element → Bool
  faults f es = f || not (languages_ok s p es)

  more : (f : Bool) (e : Element) (es : List Element) → faults (faulted f e) es ≡ faults f (e ∷ es)
  unfolding every
  more f e es = one_more f (sound_of (language_in s p e)) (languages_ok s p es)

  -- one more info
  abbrev pub keep_step : Alert → Element → Alert
  keep_step a e = pick (is_selected a.kept) (later_step a (info_of s p e.holds)) (info_step s a (info_of s p e.holds))

  kept-after : (es : List Element) (i : Info) (f : Bool) → foldl keep_step (kept_as Selected i f) es ≡ kept_as Selected i (faults f es)
  unfolding every info_of later_step
  kept-after [] i f = ap (kept_as Selected i) (no_more f)
  kept-after (e ∷ es) i f = kept-after es i (faulted f e) ∙ ap (kept_as Selected i) (more f e es)

  -- the first in English, or else i
  abbrev chosen : Info → List Element → Bool → Alert
  chosen i [] = kept_as First i
  chosen i (e ∷ es) = kept_as Selected (info_of s p e.holds)

  abbrev Chooses : Alert → Info → List Element → Type 0
  Chooses a i es = foldl keep_step a es ≡ chosen i (from_english s p es) (faults a.fault es)

  kept-first : (a : Alert) (i : Info) (e : Element) (es : List Element) → let f = faulted a.fault e in
      keep_step a e ≡ pick (english s (language_in s p e)) (kept_as Selected (info_of s p e.holds) f) (kept_as First i f) → Chooses (kept_as First i f) i es → Chooses a i (e ∷ es)
  unfolding every from_english
  kept-first a i e es step rest = ap (λ (z : Alert). foldl keep_step z es) step ∙ go (english s (language_in s p e))
    where
      j : Info
      j = info_of s p e.holds

      f : Bool
      f = faulted a.fault e

      go : (b : Bool) → foldl keep_step (pick b (kept_as Selected j f) (kept_as First i f)) es ≡ chosen i (pick b (e ∷ es) (from_english s p es)) (faults a.fault (e ∷ es))
      go true = kept-after es j f ∙ ap (kept_as Selected j) (more a.fault e es)
      go false = rest ∙ ap (chosen i (from_english s p es)) (more a.fault e es)

  kept-while : (es : List Element) (i : Info) (f : Bool) → Chooses (kept_as First i f) i es
  unfolding every from_english info_of info_step
  kept-while [] i f = ap (kept_as First i) (no_more f)
  kept-while (e ∷ es) i f = kept-first (kept_as First i f) i e es refl (kept-while es i (faulted f e))

  pub kept-is : (es : List Element)
      → foldl keep_step (kept_as Nothing (no_info (length s)) false) es ≡ kept_as (selection (from_english s p es) es) (selected s p (from_english s p es) es) (not (languages_ok s p es))
  unfolding every from_english selection selected info_of info_step
  kept-is [] = refl
  kept-is (e ∷ es) = kept-first (kept_as Nothing (no_info (length s)) false) i e es refl (kept-while es i (faulted false e)) ∙ tip (from_english s p (e ∷ es))
    where
      i : Info
      i = info_of s p e.holds

      tip : (xs : List Element) → let f = not (languages_ok s p (e ∷ es)) in chosen i xs f ≡ kept_as (selection xs (e ∷ es)) (selected s p xs (e ∷ es)) f
      tip [] = refl
      tip (x ∷ xs) = refl
