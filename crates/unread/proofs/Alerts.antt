-- Two alerts of which the same is kept are read alike: t in the message s, whose root's prefix is p, and u in r, whose root's prefix is q.
--     fold-as         lists of elements of which the same is kept leave alike what two of them leave alike
--     info-as         two infos
--     selected-as     the selected infos
--     alert-as        two alerts
use Prim.Native.Nat.{ℕ}
use Prim.Native.String.{String}
use mathlib.Core.Path.{◌≡◌, refl, sym, ap, ap₂, ◌∙◌}
use mathlib.Core.Bool.{Bool, true, false, ◌&&◌, not}
use mathlib.Core.List.{List, [], ◌∷◌, foldl, map}
use native.Mathlib.Omega.{arith}
use lib.ListN.{length}
use Rattle.octets.specs.Bytes.{pick, every, same}
use Rattle.octets.specs.Text.{bytes}
use Rattle.markup.specs.Tree.{Forest}
use Rattle.values.specs.Value.{value_at}
use Rattle.reads.specs.WorkingLeaves.{no_leaf, no_info}
use Rattle.reads.specs.Names.{info_inside, among, inside}
use Rattle.reads.specs.WorkingSteps.{english}
use Rattle.reads.specs.declared.Leaf as reads
use Rattle.reads.specs.declared.Locations.{Locations}
use Rattle.reads.specs.declared.Kept.{Kept}
use Rattle.reads.specs.declared.Kept.TheVariants.{Nothing, First, Selected}
use Rattle.reads.specs.declared.Context.{Context}
use Rattle.reads.specs.declared.Context.TheVariants as ctx
use Rattle.gather.specs.Read.{Element, named, bare}
use Rattle.gather.specs.WorkingRead.{place_in, marked_if, with_leaf, leaf_in, with_event, with_parameter, with_geocode, with_resource, with_area, info_of}
use Rattle.gather.specs.WorkingRead.{language_in, from_english, selection, selected, languages_ok, alert_of}
use Rattle.leaves.proofs.Reals.{Real, AllReal}
use Rattle.leaves.proofs.Places.{Reals, named-real}
use Rattle.told.proofs.Alerts.{english-is}
use Rattle.unread.specs.Kept.{KeptLeaf, leaf_by, leafy, inner, kind_of, kept_in, kept_from}
use Rattle.unread.proofs.Alike.{both_ways, LeafAs, EventsAs, ParametersAs, AudioAs, InfoAs, AlertAs, blank-as, no-info-as, no-events-as}
use Rattle.unread.proofs.Alike.{no-parameters-as, no-audio-as, marked-as, found_as, sound-as, english-as, event-as, parameter-as, location-as, audio-as}
use Rattle.unread.proofs.Keeps.{leaves_of, nodes_of, in_by, leaves_kept, nodes-kept, after_info, leaves-from, infos_from, nodes-from}

-- an element of the message s
abbrev Stands : List ℕ → Element → Type 0
Stands s e = Real s e.tag e.holds × AllReal s e.holds

-- ---- lists that are equal

head-is : {A : Type 0} {x y : A} {xs ys : List A} → x ∷ xs ≡ y ∷ ys → x ≡ y
head-is q = cc

tail-is : {A : Type 0} {x y : A} {xs ys : List A} → x ∷ xs ≡ y ∷ ys → xs ≡ ys
tail-is q = cc

none-some : {A : Type 0} {x : A} {xs : List A} → [] ≡ x ∷ xs → ⊥
none-some q = let z : ◌≡◌ {A = ℕ} 0 1 = cc in omega arith

-- what two elements of which the same is kept leave alike, lists of them leave alike
fold-as : (s r : List ℕ) {A B C : Type 0} (R : A → B → Type 0) (f : A → Element → A) (g : B → Element → B) (a b : Element → C) →
    ((x : A) (y : B) (d e : Element) → Stands s d → Stands r e → a d ≡ b e → R x y → R (f x d) (g y e)) →
    (ds es : List Element) → Reals s ds → Reals r es → map a ds ≡ map b es → (x : A) (y : B) → R x y → R (foldl f x ds) (foldl g y es)
fold-as s r R f g a b k [] [] hs ks q x y h = h
fold-as s r R f g a b k [] (e ∷ es) hs ks q x y h = absurd (none-some q)
fold-as s r R f g a b k (d ∷ ds) [] hs ks q x y h = absurd (none-some (sym q))
fold-as s r R f g a b k (d ∷ ds) (e ∷ es) hs ks q x y h =
    fold-as s r R f g a b k ds es hs.2 ks.2 (tail-is q) (f x d) (g y e) (k x y d e (hs.0, hs.1) (ks.0, ks.1) (head-is q) h)

-- behind an info in another language it stays as before it
stays : (s p : List ℕ) (n : Kept) (e : Element) → AllReal s e.holds → english s (language_in s p e) ≡ false → after_info s p n e ≡ n
stays s p n e r h = ap (λ (b : Bool). pick b Selected n) (sym (english-is s p e r) ∙ h)

module _ (s p r q : List ℕ) where
  -- ---- leaves

  added-as : (l m : reads.Leaf) (d e : Element) → Stands s d → Stands r e → leaf_by s d ≡ leaf_by r e → LeafAs s r l m → LeafAs s r (with_leaf s l d) (with_leaf r m e)
  added-as l m d e hs ks z h =
      let v : value_at s (place_in s d.tag) ≡ value_at r (place_in r e.tag) = hs.0.value ∙ ap (λ (x : KeptLeaf). x.value) z ∙ sym ks.0.value in
      let b : not (bare d.holds) ≡ not (bare e.holds) = ap (λ (x : KeptLeaf). x.holds) z in
      let k : LeafAs s r (marked_if (not (bare d.holds)) l) (marked_if (not (bare e.holds)) m) = rw b (marked-as s r (not (bare e.holds)) l m h) in
      found_as s r _ _ (place_in s d.tag) (place_in r e.tag) k v

  leaf-as : (w : String) (t u : Forest) → AllReal s t → AllReal r u → map (leaf_by s) (named s p w t) ≡ map (leaf_by r) (named r q w u) →
      LeafAs s r (leaf_in s p w t) (leaf_in r q w u)
  leaf-as w t u hs ks z =
      fold-as s r (LeafAs s r) (with_leaf s) (with_leaf r) (leaf_by s) (leaf_by r) added-as (named s p w t) (named r q w u) (named-real s p w t hs)
      (named-real r q w u ks) z (no_leaf (length s)) (no_leaf (length r)) (blank-as s r)

  -- ---- an element of the context c, of which the same is kept

  module _ (c : Context) (t u : Forest) (hs : AllReal s t) (ks : AllReal r u) (z : kept_in s p c t ≡ kept_in r q c u) where
    -- a leaf that is read there
    leaf-in : (w : String) → kind_of (inside Nothing c (bytes w)) ≡ leafy → LeafAs s r (leaf_in s p w t) (leaf_in r q w u)
    leaf-in w i = leaf-as w t u hs ks (leaves_kept s p c w i t ∙ ap (leaves_of w) z ∙ sym (leaves_kept r q c w i u))

    -- elements that are read there otherwise, in a context d of their own
    nodes-in : (d : Context) (w : String) → inside Nothing c (bytes w) ≡ d → kind_of d ≡ inner →
        {A B : Type 0} (R : A → B → Type 0) (f : A → Element → A) (g : B → Element → B) →
        ((x : A) (y : B) (a b : Element) → Stands s a → Stands r b → in_by s p d a ≡ in_by r q d b → R x y → R (f x a) (g y b)) →
        (x : A) (y : B) → R x y → R (foldl f x (named s p w t)) (foldl g y (named r q w u))
    nodes-in d w i j R f g k =
        fold-as s r R f g (in_by s p d) (in_by r q d) k (named s p w t) (named r q w u) (named-real s p w t hs) (named-real r q w u ks)
        (nodes-kept s p c d w i j t ∙ ap (nodes_of w) z ∙ sym (nodes-kept r q c d w i j u))

  -- the leaf of a pair
  of_pair : (d : Context) (w : String) → kind_of (inside Nothing d (bytes w)) ≡ leafy → (a b : Element) → Stands s a → Stands r b → in_by s p d a ≡ in_by r q d b →
      LeafAs s r (leaf_in s p w a.holds) (leaf_in r q w b.holds)
  of_pair d w i a b hs ks z = leaf-in d a.holds b.holds hs.1 ks.1 z w i

  -- ---- an info

  abbrev Same : Locations → Locations → Type 0
  Same x y = x ≡ y

  area-as : (x y : Locations) (a b : Element) → Stands s a → Stands r b → in_by s p ctx.Area a ≡ in_by r q ctx.Area b → Same x y →
      Same (with_area s p x a) (with_area r q y b)
  unfolding inside among same bytes kind_of
  area-as x y a b hs ks z h =
      nodes-in ctx.Area a.holds b.holds hs.1 ks.1 z ctx.Geocode "geocode" refl refl Same (with_geocode s p) (with_geocode r q)
      (λ x y a b hs ks z h. location-as s r _ _ _ _ (of_pair ctx.Geocode "valueName" refl a b hs ks z) (of_pair ctx.Geocode "value" refl a b hs ks z) x y h)
      x y h

  info-as : (t u : Forest) → AllReal s t → AllReal r u → kept_in s p ctx.Info t ≡ kept_in r q ctx.Info u → InfoAs s r (info_of s p t) (info_of r q u)
  unfolding info_of inside among same bytes kind_of
  info-as t u hs ks z = record {
    language = leaf-in ctx.Info t u hs ks z "language" refl;
    expires = leaf-in ctx.Info t u hs ks z "expires" refl;
    sender_name = leaf-in ctx.Info t u hs ks z "senderName" refl;
    description = leaf-in ctx.Info t u hs ks z "description" refl;
    instruction = leaf-in ctx.Info t u hs ks z "instruction" refl;
    events = nodes-in ctx.Info t u hs ks z ctx.EventCode "eventCode" refl refl (EventsAs s r) (with_event s p) (with_event r q)
        (λ x y a b hs ks z h. event-as s r _ _ _ _ (of_pair ctx.EventCode "valueName" refl a b hs ks z) (of_pair ctx.EventCode "value" refl a b hs ks z) x y h)
        (no_info (length s)).events (no_info (length r)).events (no-events-as s r);
    parameters = nodes-in ctx.Info t u hs ks z ctx.Parameter "parameter" refl refl (ParametersAs s r) (with_parameter s p) (with_parameter r q)
        (λ x y a b hs ks z h.
        parameter-as s r _ _ _ _ (of_pair ctx.Parameter "valueName" refl a b hs ks z) (of_pair ctx.Parameter "value" refl a b hs ks z) x y h)
        (no_info (length s)).parameters (no_info (length r)).parameters (no-parameters-as s r);
    locations = nodes-in ctx.Info t u hs ks z ctx.Area "area" refl refl Same (with_area s p) (with_area r q) area-as
        (no_info (length s)).locations (no_info (length r)).locations refl;
    audio = nodes-in ctx.Info t u hs ks z ctx.Resource "resource" refl refl (AudioAs s r) (with_resource s p) (with_resource r q)
        (λ x y a b hs ks z h. audio-as s r _ _ _ _ (of_pair ctx.Resource "mimeType" refl a b hs ks z) (of_pair ctx.Resource "uri" refl a b hs ks z) x y h)
        (no_info (length s)).audio (no_info (length r)).audio (no-audio-as s r);
  }

  -- ---- infos, one after the other

  -- the language, before the first info in English and behind it
  language-as : (n : Kept) (a b : Element) → Stands s a → Stands r b → in_by s p (info_inside n) a ≡ in_by r q (info_inside n) b →
      LeafAs s r (language_in s p a) (language_in r q b)
  unfolding inside among same bytes kind_of
  language-as Nothing a b hs ks = of_pair ctx.Info "language" refl a b hs ks
  language-as First a b hs ks = of_pair ctx.Info "language" refl a b hs ks
  language-as Selected a b hs ks = of_pair ctx.Later "language" refl a b hs ks

  -- so that both go on alike
  next-as : (n : Kept) (a b : Element) → AllReal s a.holds → AllReal r b.holds → LeafAs s r (language_in s p a) (language_in r q b) →
      after_info s p n a ≡ after_info r q n b
  next-as n a b x y l = ap (λ (e : Bool). pick e Selected n) (sym (english-is s p a x) ∙ english-as s r _ _ l ∙ english-is r q b y)

  abbrev some : List Element → Bool
  some [] = false
  some (x ∷ xs) = true

  -- as many or none, one in English or none, and all languages in order or not
  record InfosAs (ds es : List Element) : Type 0 where
    any : some ds ≡ some es
    in-english : some (from_english s p ds) ≡ some (from_english r q es)
    sound : languages_ok s p ds ≡ languages_ok r q es

  infos-as : (n : Kept) (ds es : List Element) → Reals s ds → Reals r es → infos_from s p n ds ≡ infos_from r q n es → InfosAs ds es
  unfolding from_english every
  infos-as n [] [] hs ks z = record { any = refl; in-english = refl; sound = refl }
  infos-as n [] (e ∷ es) hs ks z = absurd (none-some z)
  infos-as n (d ∷ ds) [] hs ks z = absurd (none-some (sym z))
  infos-as n (d ∷ ds) (e ∷ es) hs ks z =
      let l = language-as n d e (hs.0, hs.1) (ks.0, ks.1) (head-is z) in
      go l (infos-as (after_info s p n d) ds es hs.2 ks.2 (tail-is z ∙ ap (λ (m : Kept). infos_from r q m es) (sym (next-as n d e hs.1 ks.1 l))))
    where
      Both : List Element → List Element → Type 0
      Both x y = some x ≡ some y

      go : LeafAs s r (language_in s p d) (language_in r q e) → InfosAs ds es → InfosAs (d ∷ ds) (e ∷ es)
      go l h = record {
        any = refl;
        in-english = both_ways Both (english s (language_in s p d)) (english r (language_in r q e))
            (d ∷ ds) (from_english s p ds) (e ∷ es) (from_english r q es) (english-as s r _ _ l) refl h.in-english;
        sound = ap₂ (λ (a b : Bool). a && b) (sound-as s r _ _ l) h.sound;
      }

  -- ---- the info that is selected

  abbrev SelectedAs : List Element → List Element → List Element → List Element → Type 0
  SelectedAs x xs y ys = InfoAs s r (selected s p x xs) (selected r q y ys)

  -- the first of all
  first-as : (ds es : List Element) → Reals s ds → Reals r es → infos_from s p Nothing ds ≡ infos_from r q Nothing es → SelectedAs [] ds [] es
  unfolding selected
  first-as [] [] hs ks z = no-info-as s r
  first-as [] (e ∷ es) hs ks z = absurd (none-some z)
  first-as (d ∷ ds) [] hs ks z = absurd (none-some (sym z))
  first-as (d ∷ ds) (e ∷ es) hs ks z = info-as d.holds e.holds hs.1 ks.1 (head-is z)

  -- the first in English, or else that one
  selected-as : (xs ys : List Element) → SelectedAs [] xs [] ys → (ds es : List Element) → Reals s ds → Reals r es → infos_from s p Nothing ds ≡ infos_from r q Nothing es →
      SelectedAs (from_english s p ds) xs (from_english r q es) ys
  unfolding from_english selected
  selected-as xs ys f [] [] hs ks z = f
  selected-as xs ys f [] (e ∷ es) hs ks z = absurd (none-some z)
  selected-as xs ys f (d ∷ ds) [] hs ks z = absurd (none-some (sym z))
  selected-as xs ys f (d ∷ ds) (e ∷ es) hs ks z =
      let l = language-as Nothing d e (hs.0, hs.1) (ks.0, ks.1) (head-is z) in
      go (english s (language_in s p d)) refl (english-as s r _ _ l) (selected-as xs ys f ds es hs.2 ks.2)
    where
      go : (b : Bool) → english s (language_in s p d) ≡ b → english s (language_in s p d) ≡ english r (language_in r q e) →
          (infos_from s p Nothing ds ≡ infos_from r q Nothing es → SelectedAs (from_english s p ds) xs (from_english r q es) ys) →
          SelectedAs (from_english s p (d ∷ ds)) xs (from_english r q (e ∷ es)) ys
      go true b a k = rw (b, sym a ∙ b) (info-as d.holds e.holds hs.1 ks.1 (head-is z))
      go false b a k =
          rw (b, sym a ∙ b) (k (rw (stays s p Nothing d hs.1 b, stays r q Nothing e ks.1 (sym a ∙ b)) at (tail-is z)))

  selection-is : (xs es : List Element) → selection xs es ≡ pick (some xs) Selected (pick (some es) First Nothing)
  unfolding selection
  selection-is [] [] = refl
  selection-is [] (e ∷ es) = refl
  selection-is (x ∷ xs) es = refl

  -- whether there is one in English, or one at all
  kept-as : (ds es : List Element) → InfosAs ds es → selection (from_english s p ds) ds ≡ selection (from_english r q es) es
  kept-as ds es h = rw (selection-is (from_english s p ds) ds, selection-is (from_english r q es) es, h.in-english, h.any)

  -- ---- an alert

  module _ (t u : Forest) (hs : AllReal s t) (ks : AllReal r u) (z : kept_from s p Nothing t ≡ kept_from r q Nothing u) where
    leaf-from : (w : String) → ((n : Kept) → kind_of (inside n ctx.Alert (bytes w)) ≡ leafy) → LeafAs s r (leaf_in s p w t) (leaf_in r q w u)
    leaf-from w i = leaf-as w t u hs ks (leaves-from s p w i Nothing t ∙ ap (leaves_of w) z ∙ sym (leaves-from r q w i Nothing u))

    pub alert-as : AlertAs s r (alert_of s p t) (alert_of r q u)
    unfolding alert_of inside among same bytes kind_of
    alert-as =
        let ds = named s p "info" t in
        let es = named r q "info" u in
        let js = named-real s p "info" t hs in
        let ks' = named-real r q "info" u ks in
        let y = nodes-from s p Nothing t ∙ ap (nodes_of "info") z ∙ sym (nodes-from r q Nothing u) in
        let h = infos-as Nothing ds es js ks' y in
        record {
          identifier = leaf-from "identifier" (λ n. refl);
          sender = leaf-from "sender" (λ n. refl);
          sent = leaf-from "sent" (λ n. refl);
          status = leaf-from "status" (λ n. refl);
          msg_type = leaf-from "msgType" (λ n. refl);
          scope = leaf-from "scope" (λ n. refl);
          references = leaf-from "references" (λ n. refl);
          kept = kept-as ds es h;
          info = selected-as ds es (first-as ds es js ks' y) ds es js ks' y;
          fault = ap not h.sound;
        }
